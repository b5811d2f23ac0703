-- How many numbers name a call in a form, and the calls that numbers name.
use Rattle.std.specs.Prelude.{ℕ, List}
use Rattle.roots.specs.declared.call.Call.{Call}
use Rattle.book.specs.declared.form.Form.{Form}
use Rattle.book.specs.declared.form.Form.TheVariants.{Seek, Adopt}
use Rattle.book.specs.Named.{seek_calls, adopt_calls}

abbrev pub width : Form → ℕ
width Seek = 2
width Adopt = 3

abbrev pub named_calls : Form → List ℕ → List Call
named_calls Seek numbers = seek_calls numbers
named_calls Adopt numbers = adopt_calls numbers

-- The call that a piece of numbers names, and taking a piece off the front.
use Rattle.std.proofs.Common.{◌≡◌, ℕ, List, [], ◌∷◌, ◌++◌, length, get_or, refl, arith}
use Rattle.roots.specs.declared.call.Call.TheVariants.{Seek, Adopt}
use Rattle.book.specs.declared.form.Form.{Form}
use Rattle.book.specs.declared.form.Form.TheVariants.{Seek as Pairs, Adopt as Triples}
use Rattle.book.specs.Forms.{width, named_calls}
use Rattle.book.specs.Named.{seek_calls, adopt_calls}

pub seek_calls_pair : (ns : List ℕ) → length ns ≡ 2 → seek_calls ns ≡ Seek (get_or ns 0 0) (get_or ns 1 0) ∷ []
unfolding seek_calls
seek_calls_pair [] h = absurd (omega (arith, h))
seek_calls_pair (r ∷ []) h = absurd (omega (arith, h))
seek_calls_pair (r ∷ f ∷ []) h = refl
seek_calls_pair (r ∷ f ∷ z ∷ more) h = absurd (omega (arith, h))

pub adopt_calls_triple : (ns : List ℕ) → length ns ≡ 3 → adopt_calls ns ≡ Adopt (get_or ns 0 0) (get_or ns 1 0) (get_or ns 2 0) ∷ []
unfolding adopt_calls
adopt_calls_triple [] h = absurd (omega (arith, h))
adopt_calls_triple (r ∷ []) h = absurd (omega (arith, h))
adopt_calls_triple (r ∷ f ∷ []) h = absurd (omega (arith, h))
adopt_calls_triple (r ∷ f ∷ z ∷ []) h = refl
adopt_calls_triple (r ∷ f ∷ z ∷ y ∷ more) h = absurd (omega (arith, h))

pub named_calls_append : (form : Form) (piece rest : List ℕ) → length piece ≡ width form
    → named_calls form (piece ++ rest) ≡ named_calls form piece ++ named_calls form rest
unfolding seek_calls adopt_calls
named_calls_append Pairs [] rest h = absurd (omega (arith, h))
named_calls_append Pairs (r ∷ []) rest h = absurd (omega (arith, h))
named_calls_append Pairs (r ∷ f ∷ []) rest h = refl
named_calls_append Pairs (r ∷ f ∷ z ∷ more) rest h = absurd (omega (arith, h))
named_calls_append Triples [] rest h = absurd (omega (arith, h))
named_calls_append Triples (r ∷ []) rest h = absurd (omega (arith, h))
named_calls_append Triples (r ∷ f ∷ []) rest h = absurd (omega (arith, h))
named_calls_append Triples (r ∷ f ∷ z ∷ []) rest h = refl
named_calls_append Triples (r ∷ f ∷ z ∷ y ∷ more) rest h = absurd (omega (arith, h))

pub no_calls : (form : Form) → named_calls form [] ≡ []
unfolding seek_calls adopt_calls
no_calls Pairs = refl
no_calls Triples = refl

use Rattle.std.proofs.Common.{◌≡◌, ℕ, zero, suc, eqb, not, rules, refl, ap, ◌∙◌, arith}
use Rattle.std.proofs.lemmas.Bool.{ne_eqb}
use Rattle.std.specs.Bool.{then_some}
use Rattle.books.specs.Layout.{fourth_in}
use Rattle.books.proofs.book.Book.open.Goals as goal

fourth_is : (w : ℕ) → then_some (not (eqb w 0)) w ≡ fourth_in w
fourth_is zero = refl
fourth_is (suc i) = ap (λ b. then_some (not b) (suc i)) (ne_eqb (suc i) 0 (λ e. omega arith))

pub returns : goal.returns
returns c = (
  refl,
  record { modulus = c.from_le_bytes-2.result; fourth = c.from_le_bytes-fourth.result; count = c.from_le_bytes-count.result },
  search rules,
  refl,
  c.then_some.ensures ∙ fourth_is c.from_le_bytes-fourth.result,
  refl,
)

-- The rule of the house table, computed once over the whole table, and what it says of a row that is looked up.
use Rattle.std.proofs.Common.{◌≡◌, ℕ, true, false, eqb, List, [], ◌∷◌, Some, None, Option, IfSome, sym, refl, ap, ◌∙◌, ⊎_elim}
use Rattle.std.proofs.lemmas.Bool.{cases_Bool, and_parts, cond-true, cond-false}
use Rattle.theory.specs.First.{first, first_some}
use Rattle.theory.specs.Numbers.{bits_in, ones_in, bits, ones, joinings}
use Rattle.theory.specs.Operation.{pow, rung}
use Rattle.theory.proofs.Search.{some_apart}
use Rattle.roots.specs.declared.house.Row.{Row}
use Rattle.roots.specs.Checks.{divided, gcd_in, gcd, apart}
use Rattle.roots.specs.House.{house, row_of, housed, housed_over, all_accepted, all_housed}
use Rattle.roots.specs.Laws.{taken_from, multiplied, fourth_from}
use Rattle.roots.specs.Runs.{run_from}
use Rattle.roots.specs.State.{multiplicity_in, multiplicity, cofactor}

pub house_rule : all_housed house ≡ true
unfolding first first_some bits_in ones_in bits ones joinings pow rung multiplicity_in multiplicity cofactor divided gcd_in gcd apart run_from taken_from multiplied fourth_from all_accepted housed_over all_housed
house_rule = refl

-- ---- looking up

-- a row that is found keeps the rule of its table
rule_of : (modulus : ℕ) (rows : List Row) (h : Row) → all_housed rows ≡ true → row_of modulus rows ≡ Some h → housed h ≡ true
unfolding all_housed
rule_of modulus [] h t e = absurd (some_apart h (sym e))
rule_of modulus (x ∷ rows) h t e =
    let both = and_parts (housed x) (all_housed rows) t in
    ⊎_elim
    (λ (yes : eqb x.modulus modulus ≡ true). let same : Some x ≡ Some h = sym (cond-true (eqb x.modulus modulus) (Some x) (row_of modulus rows) yes) ∙ e in
    let at : x ≡ h = cc in sym (ap housed at) ∙ both.0)
    (λ (no : eqb x.modulus modulus ≡ false). rule_of modulus rows h both.1 (sym (cond-false (eqb x.modulus modulus) (Some x) (row_of modulus rows) no) ∙ e))
    (cases_Bool (eqb x.modulus modulus))

pub house_row_rule : (modulus : ℕ) (r : Option Row) → r ≡ row_of modulus house → IfSome r (λ h. housed h ≡ true)
house_row_rule modulus None e = tt
house_row_rule modulus (Some h) e = rule_of modulus house h house_rule (sym e)

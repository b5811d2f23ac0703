-- The factors held, as a row: one more, and each of them.
use Rattle.std.proofs.Common.{◌≡◌, ℕ, zero, suc, ◌%◌, ◌<◌, ◌≤◌, true, ◌&&◌, eqb, leb, List, [], ◌∷◌, ◌++◌, length, get_or, refl, ap, arith}
use Rattle.std.specs.List.{list_all}
use Rattle.std.proofs.lemmas.Bool.{and_parts, and_from, leb-true}
use Rattle.roots.specs.declared.factor.Factor.{Factor}
use Rattle.roots.specs.Checks.{base, gcd, apart}
use Rattle.roots.specs.Small.{all_small}

-- one factor behind the others
pub small_push : (xs : List Factor) (h : Factor) → all_small xs ≡ true → base h.r ≡ true → all_small (xs ++ h ∷ []) ≡ true
unfolding all_small
small_push [] h t b = and_from (base h.r) true b refl
small_push (x ∷ xs) h t b =
    let both = and_parts (base x.r) (all_small xs) t in
    and_from (base x.r) (all_small (xs ++ h ∷ [])) both.0 (small_push xs h both.1 b)

-- the r of each lies from 3 to 4,095
pub record Within (r : ℕ) : Type 0 where
  pub low : 3 ≤ r
  pub high : r ≤ 4095

pub base_within : (r : ℕ) → base r ≡ true → Within r
base_within r t =
    let one = and_parts (eqb (r % 2) 1) (leb 3 r && leb r 4095) t in
    let two = and_parts (leb 3 r) (leb r 4095) one.1 in
    record { low = leb-true 3 r two.0; high = leb-true r 4095 two.1 }

pub small_at : (xs : List Factor) (i : ℕ) (d : Factor) → all_small xs ≡ true → i < length xs → Within (get_or xs i d).r
unfolding all_small
small_at [] i d t h = absurd (omega arith)
small_at (x ∷ xs) zero d t h = base_within x.r (and_parts (base x.r) (all_small xs) t).0
small_at (x ∷ xs) (suc i) d t h =
    small_at xs i d (and_parts (base x.r) (all_small xs) t).1 (omega arith)

-- r is apart from each where each passes the test
pub apart_all : (r : ℕ) (xs : List Factor) → list_all (λ h. eqb (gcd r h.r) 1) xs ≡ apart r xs
unfolding apart
apart_all r [] = refl
apart_all r (h ∷ xs) = ap (λ b. eqb (gcd r h.r) 1 && b) (apart_all r xs)

-- what a place of the row reads past its end
abbrev pub no_factor : Factor
no_factor = record { r = 0; f = 0; zeta = 0 }

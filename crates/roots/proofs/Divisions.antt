-- How often r goes into n, and what is left.
use Rattle.std.proofs.Common.{◌≡◌, ℕ, zero, suc, ◌+◌, ◌-◌, ◌*◌, ◌/◌, ◌%◌, ◌^◌, ◌<◌, ◌≤◌, Bool, true, false, eqb, Some, None, sym, refl, ap, ◌∙◌, subst, ⊎_elim, mul_assoc, mul_comm, mul-le-mul, one-mul, pow-suc, mul-zero, div-add-mod', zero-mul, mul-one, mul_right_comm, arith, lit<}
use native.Mathlib.Nat.{one-le-pow, pow-zero, div-eq_of_eq-mul_left, div-eq_of_eq-mul_right, eq_of_mul-eq-mul_left}
use Rattle.std.proofs.lemmas.Bool.{cases_Bool, eqb-true, eqb-false, eq-eqb}
use Rattle.theory.specs.Numbers.{Divides}
use Rattle.theory.proofs.Divisors.{divides_of_remainder, remainder_of_divides}
use Rattle.theory.proofs.Search.{some_apart}
use Rattle.roots.specs.Checks.{divided, parted_out}
use Rattle.roots.specs.State.{multiplicity_in, multiplicity, cofactor, twos, odd, served}

-- ---- a power of r, and a number that r does not go into

-- n is so many powers of r times a number that r does not go into.
pub record Parted (r n F u : ℕ) : Type 0 where
  pub whole : n ≡ r ^ F * u
  pub stops : Divides r u → ⊥

-- one power of r more goes into r times a number
more_power : (r F u : ℕ) → r ^ suc F * u ≡ r ^ F * u * r
more_power r F u = ap (λ x. x * u) (pow-suc r F) ∙ mul_right_comm (r ^ F) r u

no_power : (r u : ℕ) → r ^ 0 * u ≡ u
no_power r u = ap (λ x. x * u) (pow-zero r) ∙ one-mul u

divides_power : (r F u : ℕ) → Divides r (r ^ suc F * u)
divides_power r F u = (r ^ F * u, more_power r F u)

-- There is only one such way.
pub parted_only : (r F G u v : ℕ) → 0 < r → r ^ F * u ≡ r ^ G * v → (Divides r u → ⊥) → (Divides r v → ⊥) → (F ≡ G) × (u ≡ v)
parted_only r zero zero u v some e hu hv = (refl, sym (no_power r u) ∙ e ∙ no_power r v)
parted_only r zero (suc G) u v some e hu hv =
    absurd (hu (subst (Divides r) (sym e ∙ no_power r u) (divides_power r G v)))
parted_only r (suc F) zero u v some e hu hv =
    absurd (hv (subst (Divides r) (e ∙ no_power r v) (divides_power r F u)))
parted_only r (suc F) (suc G) u v some e hu hv =
    let less : r * (r ^ F * u) ≡ r * (r ^ G * v) =
    mul_comm r (r ^ F * u) ∙ sym (more_power r F u) ∙ e ∙ more_power r G v ∙ mul_comm (r ^ G * v) r in
    let rest = parted_only r F G u v some (eq_of_mul-eq-mul_left r some (r ^ F * u) (r ^ G * v) less) hu hv in
    (ap suc rest.0, rest.1)

-- ---- the multiplicity

multiplicity_more : (d r n : ℕ) → eqb (n % r) 0 ≡ true → multiplicity_in (suc d) r n ≡ suc (multiplicity_in d r (n / r))
unfolding multiplicity_in
multiplicity_more d r n e = ap (λ (b : Bool). elim b [ true ↦ suc (multiplicity_in d r (n / r)) | false ↦ 0 ]) e

multiplicity_none : (d r n : ℕ) → eqb (n % r) 0 ≡ false → multiplicity_in (suc d) r n ≡ 0
unfolding multiplicity_in
multiplicity_none d r n e = ap (λ (b : Bool). elim b [ true ↦ suc (multiplicity_in d r (n / r)) | false ↦ 0 ]) e

-- a quotient that leaves no remainder: above 0, and at most half
quotient_exact : (n r : ℕ) → n % r ≡ 0 → n ≡ n / r * r
quotient_exact n r e = omega (arith, div-add-mod' n r)

quotient_some : (n r : ℕ) → n % r ≡ 0 → 0 < n → 0 < n / r
quotient_some n r e some = from (n / r) (quotient_exact n r e)
  where
    from : (q : ℕ) → n ≡ q * r → 0 < q
    from zero whole = absurd (omega (arith, zero-mul r))
    from (suc q) whole = omega arith

quotient_half : (n r d : ℕ) → n % r ≡ 0 → 1 < r → n < 2 ^ suc d → n / r < 2 ^ d
quotient_half n r d e above high =
    let twice : n / r * 2 ≤ n / r * r = mul-le-mul (omega arith) above in
    omega (arith, pow-suc 2 d, quotient_exact n r e)

parted_in : (d r n : ℕ) → 1 < r → 0 < n → n < 2 ^ d → (u : ℕ) × Parted r n (multiplicity_in d r n) u
parted_in zero r n above some high = absurd (omega arith)
parted_in (suc d) r n above some high = ⊎_elim (λ e. goes e (parted_in d r (n / r) above)) stays (cases_Bool (eqb (n % r) 0))
  where
    goes : eqb (n % r) 0 ≡ true
        → (0 < n / r → n / r < 2 ^ d → (u : ℕ) × Parted r (n / r) (multiplicity_in d r (n / r)) u)
        → (u : ℕ) × Parted r n (multiplicity_in (suc d) r n) u
    goes t below =
        let e = eqb-true (n % r) 0 t in
        let p = below (quotient_some n r e some) (quotient_half n r d e above high) in
        let M = multiplicity_in d r (n / r) in (
          p.0,
          record {
            whole = quotient_exact n r e ∙ ap (λ x. x * r) p.1.whole ∙ sym (more_power r M p.0)
                ∙ ap (λ x. r ^ x * p.0) (sym (multiplicity_more d r n t));
            stops = p.1.stops;
          },
        )

    stays : eqb (n % r) 0 ≡ false → (u : ℕ) × Parted r n (multiplicity_in (suc d) r n) u
    stays f = (
      n,
      record {
        whole = sym (no_power r n) ∙ ap (λ x. r ^ x * n) (sym (multiplicity_none d r n f));
        stops = λ h. eqb-false (n % r) 0 f (remainder_of_divides r n h);
      },
    )

cofactor_is : (r n : ℕ) → cofactor r n ≡ n / r ^ multiplicity r n
unfolding cofactor
cofactor_is r n = refl

-- For r above 1 and n above 0: n is r to its multiplicity times the cofactor, and r does not go into the cofactor.
pub parted : (r n : ℕ) → 1 < r → 0 < n → n < 2 ^ 64 → Parted r n (multiplicity r n) (cofactor r n)
unfolding multiplicity
parted r n above some high =
    let p = parted_in 64 r n above some high in
    let power-some : 0 < r ^ multiplicity r n = one-le-pow (multiplicity r n) r (omega arith) in
    let same : cofactor r n ≡ p.0 = cofactor_is r n ∙ div-eq_of_eq-mul_right power-some p.1.whole in
    subst (Parted r n (multiplicity r n)) (sym same) p.1

-- and nothing else is so
pub parted_is : (r n F u : ℕ) → 1 < r → 0 < n → n < 2 ^ 64 → Parted r n F u → (multiplicity r n ≡ F) × (cofactor r n ≡ u)
parted_is r n F u above some high p =
    let q = parted r n above some high in
    parted_only r (multiplicity r n) F (cofactor r n) u (omega arith) (sym q.whole ∙ p.whole) q.stops p.stops

-- a number whose product with another is above 0 is above 0
pub right_some : (a b n : ℕ) → 0 < n → n ≡ a * b → 0 < b
right_some a zero n some e = absurd (omega (arith, mul-zero a))
right_some a (suc b) n some e = omega arith

pub cofactor_some : (r n : ℕ) → 1 < r → 0 < n → n < 2 ^ 64 → 0 < cofactor r n
cofactor_some r n above some high = right_some (r ^ multiplicity r n) (cofactor r n) n some (parted r n above some high).whole

-- ---- dividing r out

divided_0 : (r n : ℕ) → divided r 0 n ≡ Some n
unfolding divided
divided_0 r n = refl

divided_more : (r f n : ℕ) → eqb (n % r) 0 ≡ true → divided r (suc f) n ≡ divided r f (n / r)
unfolding divided
divided_more r f n e = ap (λ (b : Bool). elim b [ true ↦ divided r f (n / r) | false ↦ None ]) e

divided_none : (r f n : ℕ) → eqb (n % r) 0 ≡ false → divided r (suc f) n ≡ None
unfolding divided
divided_none r f n e = ap (λ (b : Bool). elim b [ true ↦ divided r f (n / r) | false ↦ None ]) e

one_more : (k r f : ℕ) → k * r ^ suc f ≡ k * r ^ f * r
one_more k r f = ap (λ x. k * x) (pow-suc r f) ∙ sym (mul_assoc k (r ^ f) r)

-- What is left once r is divided out f times is k: then n is k times r ^ f.
pub divided_whole : (r f n k : ℕ) → divided r f n ≡ Some k → n ≡ k * r ^ f
divided_whole r zero n k e =
    let same : Some n ≡ Some k = sym (divided_0 r n) ∙ e in
    let at : n ≡ k = cc in
    at ∙ sym (ap (λ x. k * x) (pow-zero r) ∙ mul-one k)
divided_whole r (suc f) n k e = ⊎_elim (λ t. goes t (divided_whole r f (n / r) k)) stays (cases_Bool (eqb (n % r) 0))
  where
    goes : eqb (n % r) 0 ≡ true → (divided r f (n / r) ≡ Some k → n / r ≡ k * r ^ f) → n ≡ k * r ^ suc f
    goes t below =
        quotient_exact n r (eqb-true (n % r) 0 t) ∙ ap (λ x. x * r) (below (sym (divided_more r f n t) ∙ e)) ∙ sym (one_more k r f)

    stays : eqb (n % r) 0 ≡ false → n ≡ k * r ^ suc f
    stays no-rest = absurd (some_apart k (sym e ∙ divided_none r f n no-rest))

-- and back: r can be divided out of each multiple of r ^ f so many times
pub divided_is : (r f n k : ℕ) → 0 < r → n ≡ k * r ^ f → divided r f n ≡ Some k
divided_is r zero n k some e = divided_0 r n ∙ ap Some (e ∙ ap (λ x. k * x) (pow-zero r) ∙ mul-one k)
divided_is r (suc f) n k some e =
    let part : n ≡ k * r ^ f * r = e ∙ one_more k r f in
    let left : n / r ≡ k * r ^ f = div-eq_of_eq-mul_left some part in
    let exact : eqb (n % r) 0 ≡ true = eq-eqb (n % r) 0 (remainder_of_divides r n (k * r ^ f, part)) in
    divided_more r f n exact ∙ divided_is r f (n / r) k some left

-- The same for what is divided out at least once.
pub divided_out_whole : (r f n k : ℕ) → parted_out r f n ≡ Some k → (0 < f) × (n ≡ k * r ^ f)
divided_out_whole r zero n k e = absurd (some_apart k (sym e))
divided_out_whole r (suc f) n k e = (omega arith, divided_whole r (suc f) n k e)

pub divided_out_is : (r f n k : ℕ) → 0 < r → 0 < f → n ≡ k * r ^ f → parted_out r f n ≡ Some k
divided_out_is r zero n k some more e = absurd (omega arith)
divided_out_is r (suc f) n k some more e = divided_is r (suc f) n k some e

-- ---- the powers of 2 in the size less one

-- size − 1 = 2 ^ twos × odd, for a size of 2 or more that fits 64 bits
pub size_parted : (size : ℕ) → 1 < size → size < 2 ^ 64 → Parted 2 (size - 1) (twos size) (odd size)
size_parted size low high = parted 2 (size - 1) (lit< tt) (omega arith) (omega arith)

pub odd_some : (size : ℕ) → 1 < size → size < 2 ^ 64 → 0 < odd size
odd_some size low high = cofactor_some 2 (size - 1) (lit< tt) (omega arith) (omega arith)

pub odd_odd : (size : ℕ) → 1 < size → size < 2 ^ 64 → odd size % 2 ≡ 1
odd_odd size low high =
    let uneven : odd size % 2 ≡ 0 → ⊥ = λ e. (size_parted size low high).stops (divides_of_remainder 2 (odd size) e) in
    omega arith

-- an even number is no odd one
uneven_apart : (a b : ℕ) → 2 * a ≡ 2 * b + 1 → ⊥
uneven_apart a b e = omega arith

-- of a served size the power of 2 is at least the third
pub twos_served : (size : ℕ) → 1 < size → size < 2 ^ 64 → served size ≡ true → 3 ≤ twos size
twos_served size low high ok =
    from (twos size) (size_parted size low high).whole eight two
  where
    eight : size - 1 ≡ 8 * (size / 8)
    eight = omega (arith, eqb-true (size % 8) 1 ok)

    two : odd size ≡ 2 * (odd size / 2) + 1
    two = omega (arith, odd_odd size low high)

    from : (e : ℕ) → size - 1 ≡ 2 ^ e * odd size → size - 1 ≡ 8 * (size / 8) → odd size ≡ 2 * (odd size / 2) + 1 → 3 ≤ e
    from zero whole eighth uneven = absurd (uneven_apart (4 * (size / 8)) (odd size / 2) (omega arith))
    from (suc zero) whole eighth uneven = absurd (uneven_apart (2 * (size / 8)) (odd size / 2) (omega arith))
    from (suc (suc zero)) whole eighth uneven = absurd (uneven_apart (size / 8) (odd size / 2) (omega arith))
    from (suc (suc (suc e))) whole eighth uneven = omega arith

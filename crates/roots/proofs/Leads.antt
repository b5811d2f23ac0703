-- Which codes lead to a root: one whose power by the cofactor is not 1 leads to a number of prime order, and one whose power by twice the
-- odd part is not 1 to a fourth root.
use Rattle.std.proofs.Common.{◌≡◌, ℕ, suc, ◌-◌, ◌*◌, ◌%◌, ◌^◌, ◌<◌, Bool, true, false, ◌⊎◌, Some, None, Ok, Option, Result, sym, ap, ◌∙◌, inl, inr, mod-eq_of_lt, mul_assoc, mul_comm, pow-suc, mul-one, arith}
use native.Mathlib.Nat.{pow-zero}
use Rattle.std.proofs.lemmas.Bool.{eqb-true, eqb-false, eq-eqb, cond-true}
use Rattle.theory.specs.Meaning.{Meaning, Laws, Lawful}
use Rattle.theory.specs.Numbers.{Prime}
use Rattle.theory.specs.Operation.{Operation, multiplication}
use Rattle.theory.specs.Power.{power, Order}
use Rattle.theory.proofs.Fields.{two_roots}
use Rattle.theory.proofs.JoiningLaws.{multiplication_laws}
use Rattle.theory.proofs.Orders.{prime_order}
use Rattle.theory.proofs.PowerLaws.{one_below, power_below, power_mul, power_two, power_one_multiple}
use Rattle.joining.specs.declared.Back.TheVariants.{One, Two}
use Rattle.joining.specs.Ladder.{climbed}
use Rattle.joining.specs.declared.JoiningFault.{JoiningFault}
use Rattle.roots.specs.Checks.{order_is, fourth_is}
use Rattle.roots.specs.Drafts.{passing, leads, leads_fourth}
use Rattle.roots.specs.State.{multiplicity, cofactor, twos, odd}
use Rattle.roots.proofs.Climbs.{OneBefore, TwoBefore, climb_one, climb_two}
use Rattle.roots.proofs.Tests.{order_passes, fourth_passes}

module _ (m : Meaning) (laws : Laws m) where
  -- a power is spent exactly when it is 1
  pub spent_power : (g k : ℕ) → (multiplication m).spent (power m g k) ≡ true → power m g k ≡ 1
  spent_power g k e = sym (mod-eq_of_lt (power_below m laws g k)) ∙ eqb-true (power m g k % m.size) 1 e

  pub power_spent : (g k : ℕ) → power m g k ≡ 1 → (multiplication m).spent (power m g k) ≡ true
  power_spent g k e = eq-eqb (power m g k % m.size) 1 (mod-eq_of_lt (power_below m laws g k) ∙ e)

  pub unspent_power : (g k : ℕ) → (multiplication m).spent (power m g k) ≡ false → power m g k ≡ 1 → ⊥
  unspent_power g k e one = eqb-false (power m g k % m.size) 1 e (mod-eq_of_lt (power_below m laws g k) ∙ one)

  -- the power r of a rung is the rung after it
  next_power : (g u r i : ℕ) → power m (power m g (u * r ^ i)) r ≡ power m g (u * r ^ suc i)
  next_power g u r i =
      power_mul m laws g (u * r ^ i) r ∙ ap (power m g) (mul_assoc u (r ^ i) r ∙ ap (◌*◌ u) (sym (pow-suc r i)))

exponent_0 : (u r : ℕ) → u * r ^ 0 ≡ u
exponent_0 u r = ap (◌*◌ u) (pow-zero r) ∙ mul-one u

-- what passes the test is what the code leads to
passing_is : (test : ℕ → Bool) (found : Result (Option ℕ × ℕ) JoiningFault) (z n : ℕ) → found ≡ Ok (Some z, n)
    → test z ≡ true → passing test found ≡ Some z
passing_is test found z n e passes = ap (passing test) e ∙ cond-true (test z) (Some z) None passes

module _ (m : Meaning) (laws : Laws m) (lawful : Lawful m) where
  -- With size − 1 = r ^ F × u, r prime: a code whose power u is not 1 leads to a number of order r.
  pub leads_found : (r g : ℕ) → Prime r → m.size - 1 ≡ r ^ multiplicity r (m.size - 1) * cofactor r (m.size - 1)
      → power m g (m.size - 1) ≡ 1 → (power m g (cofactor r (m.size - 1)) ≡ 1 → ⊥) → (z : ℕ) × (leads m r g ≡ Some z)
  leads_found r g prime parts one other =
      from (climb_one o (multiplication_laws m laws) g u r F (power_spent m laws g (u * r ^ F) (ap (power m g) whole ∙ one)))
    where
      o : Operation ℕ
      o = multiplication m

      u : ℕ
      u = cofactor r (m.size - 1)

      F : ℕ
      F = multiplicity r (m.size - 1)

      whole : u * r ^ F ≡ m.size - 1
      whole = mul_comm u (r ^ F) ∙ sym parts

      from : OneBefore o (multiplication_laws m laws) g u r F → (z : ℕ) × (leads m r g ≡ Some z)
      from (inl (n, spent, none)) =
          absurd (other (ap (power m g) (sym (exponent_0 u r)) ∙ spent_power m laws g (u * r ^ 0) spent))
      from (inr (i, n, within, unspent, spent, is)) =
          let z = power m g (u * r ^ i) in
          let order : Order m z r =
          prime_order m laws r prime z (power_below m laws g (u * r ^ i)) (unspent_power m laws g (u * r ^ i) unspent)
          (next_power m laws g u r i ∙ spent_power m laws g (u * r ^ suc i) spent) in
          (z, passing_is (λ z. order_is m z r) (climbed o g u r F One) z n is (order_passes m z r order))

  -- A code whose power by twice the odd part is not 1 leads to a fourth root.
  pub leads_fourth_found : (g : ℕ) → m.size - 1 ≡ 2 ^ twos m.size * odd m.size → power m g (m.size - 1) ≡ 1
      → (power m g (2 * odd m.size) ≡ 1 → ⊥) → (i : ℕ) × (leads_fourth m g ≡ Some i)
  leads_fourth_found g parts one other =
      from (climb_two o (multiplication_laws m laws) g u 2 e (power_spent m laws g (u * 2 ^ e) (ap (power m g) whole ∙ one)))
    where
      o : Operation ℕ
      o = multiplication m

      u : ℕ
      u = odd m.size

      e : ℕ
      e = twos m.size

      whole : u * 2 ^ e ≡ m.size - 1
      whole = mul_comm u (2 ^ e) ∙ sym parts

      -- the power u is 1 only where the power 2u is
      early : (power m g (u * 2 ^ 0) ≡ 1) ⊎ (power m g (u * 2 ^ 1) ≡ 1) → ⊥
      early (inl one) = other (ap (power m g) (omega arith) ∙ power_one_multiple m laws g (u * 2 ^ 0) 2 one)
      early (inr one) = other (ap (power m g) (omega arith) ∙ one)

      -- a number other than 1 whose square is 1 is the negative of 1
      minus : (x : ℕ) → x < m.size → (x ≡ 1 → ⊥) → m.product x x ≡ 1 → x ≡ m.negative 1
      minus x below apart square =
          pick (two_roots m laws lawful x 1 below (one_below m laws) (square ∙ sym (laws.product_one 1 (one_below m laws))))
        where
          pick : (x ≡ 1) ⊎ (x ≡ m.negative 1) → x ≡ m.negative 1
          pick (inl same) = absurd (apart same)
          pick (inr same) = same

      square_power : (i : ℕ) → m.product (power m g (u * 2 ^ i)) (power m g (u * 2 ^ i)) ≡ power m g (u * 2 ^ suc i)
      square_power i = sym (power_two m laws (power m g (u * 2 ^ i))) ∙ next_power m laws g u 2 i

      from : TwoBefore o (multiplication_laws m laws) g u 2 e → (i : ℕ) × (leads_fourth m g ≡ Some i)
      from (inl (n, inl spent, none)) = absurd (early (inl (spent_power m laws g (u * 2 ^ 0) spent)))
      from (inl (n, inr spent, none)) = absurd (early (inr (spent_power m laws g (u * 2 ^ 1) spent)))
      from (inr (i, n, within, unspent, spent, is)) =
          let x = power m g (u * 2 ^ i) in
          let minus_one : m.product x x ≡ m.negative 1 =
          square_power i
          ∙ minus (power m g (u * 2 ^ suc i)) (power_below m laws g (u * 2 ^ suc i))
          (unspent_power m laws g (u * 2 ^ suc i) unspent)
          (square_power (suc i) ∙ spent_power m laws g (u * 2 ^ suc (suc i)) spent) in
          (x, passing_is (fourth_is m) (climbed o g u 2 e Two) x n is (fourth_passes m x minus_one))

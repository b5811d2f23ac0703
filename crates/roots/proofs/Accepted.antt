-- What an accepted call on a draft has found to be so, and what the draft then holds.
use Rattle.std.proofs.Common.{◌≡◌, ℕ, zero, suc, ◌-◌, ◌*◌, ◌^◌, ◌<◌, Bool, true, false, cond, not, ◌&&◌, ltb, leb, length, Some, None, Ok, Err, Option, Result, sym, refl, ap, ◌∙◌, subst, ⊎_elim, arith}
use Rattle.std.proofs.lemmas.Bool.{cases_Bool, not-false, leb-false, ltb-true, and_parts, cond-true, cond-false}
use Rattle.theory.specs.First.{first_some}
use Rattle.theory.specs.Meaning.{Meaning, Laws}
use Rattle.theory.specs.Numbers.{joinings}
use Rattle.theory.specs.Operation.{multiplication, rung, rank}
use Rattle.theory.specs.Power.{power, Order}
use Rattle.theory.proofs.PowerLaws.{power_below}
use Rattle.theory.proofs.Powers.{rung_0, rung_suc}
use Rattle.theory.proofs.Search.{some_apart, first_some_found}
use Rattle.joining.specs.Ladder.{places, laddered_at, with_power, climbed}
use Rattle.joining.specs.declared.Back.{Back}
use Rattle.joining.specs.declared.Back.TheVariants.{One, Two}
use Rattle.refusals.specs.declared.Refusal.{Refusal}
use Rattle.refusals.specs.declared.Refusal.TheVariants.{Size, Full, Base as BadBase, Power, Shared, Root, Unfound}
use Rattle.roots.specs.Checks.{base, parted_out, apart, order_is, fourth_is}
use Rattle.roots.specs.Drafts.{refuse, holding, checked, checked_apart, adopted, adopted_with, passing, leads, leads_fourth, tries, sought, sought_found, sought_with, giving, given, sought_fourth, sought_fourth_found}
use Rattle.roots.specs.Laws.{ApartFrom}
use Rattle.roots.specs.State.{State, served}
use Rattle.roots.proofs.Divisions.{divided_out_whole}
use Rattle.roots.proofs.Tests.{Base, base_means, apart_means, order_means, fourth_means}

-- ---- refusals

-- a refusal is no answer
pub ok_apart : {A : Type 0} (why : Refusal) (a : A) → ◌≡◌ {A = Result A Refusal} (Err why) (Ok a) → ⊥
ok_apart why a e = let z : ◌≡◌ {A = ℕ} 0 1 = cc in omega arith

-- What comes through a check: the check did not refuse.
pub refuse_passed : {A : Type 0} (b : Bool) (why : Refusal) (x : Result A Refusal) (a : A) → refuse b why x ≡ Ok a → (b ≡ false) × (x ≡ Ok a)
refuse_passed true why x a e = absurd (ok_apart why a e)
refuse_passed false why x a e = (refl, e)

-- ---- the checks on r and f

-- What passes the checks that adopting and seeking share.
pub record Fits (m : Meaning) (s : State) (r f left : ℕ) : Type 0 where
  pub serves : served m.size ≡ true
  pub room : length s.factors < 8
  pub good : Base r
  pub some : 0 < f
  pub whole : s.rest ≡ left * r ^ f
  pub apart : ApartFrom r s.factors

pub checked_fits : (m : Meaning) (s : State) (r f left : ℕ) → checked m s r f ≡ Ok left → Fits m s r f left
checked_fits m s r f left e =
    let size = refuse_passed (not (served m.size)) Size _ left e in
    let full = refuse_passed (leb 8 (length s.factors)) Full _ left size.1 in
    let good = refuse_passed (not (base r)) BadBase _ left full.1 in
    let rest = from (parted_out r f s.rest) refl good.1 in
    record {
      serves = not-false (served m.size) size.0;
      room = leb-false 8 (length s.factors) full.0;
      good = base_means r (not-false (base r) good.0);
      some = rest.0.0;
      whole = rest.0.1;
      apart = rest.1;
    }
  where
    from : (o : Option ℕ) → parted_out r f s.rest ≡ o → checked_apart s r o ≡ Ok left → ((0 < f) × (s.rest ≡ left * r ^ f)) × ApartFrom r s.factors
    from None e refused = absurd (ok_apart Power left refused)
    from (Some k) e taken =
        let p = refuse_passed (not (apart r s.factors)) Shared (Ok k) left taken in
        let same : k ≡ left = let t = p.1 in cc in (
          divided_out_whole r f s.rest left (e ∙ ap Some same),
          apart_means r s.factors (not-false (apart r s.factors) p.0),
        )

-- ---- accepted factors

-- A factor that a draft takes: r and f fit, and ζ is a number of order exactly r.
pub record Adds (m : Meaning) (s : State) (r f z left : ℕ) : Type 0 where
  pub fits : Fits m s r f left
  pub below : z < m.size
  pub order : Order m z r

-- the answer is ζ, and the draft holds one factor more
pub record Added (m : Meaning) (s : State) (r f : ℕ) (done : ℕ × State) : Type 0 where
  pub z : ℕ
  pub left : ℕ
  pub adds : Adds m s r f z left
  pub is : done ≡ (z, holding s r f z left)

pub adopted_added : (m : Meaning) (s : State) (r f z : ℕ) (done : ℕ × State) → adopted m s r f z ≡ Ok done → Added m s r f done
adopted_added m s r f z done e = from (checked m s r f) refl e
  where
    from : (o : Result ℕ Refusal) → checked m s r f ≡ o → adopted_with m s r f z o ≡ Ok done → Added m s r f done
    from (Err why) c refused = absurd (ok_apart why done refused)
    from (Ok left) c taken =
        let p = refuse_passed (not (ltb z m.size && order_is m z r)) Root (Ok (z, holding s r f z left)) done taken in
        let t = and_parts (ltb z m.size) (order_is m z r) (not-false _ p.0) in
        record {
          z = z;
          left = left;
          adds = record {
            fits = checked_fits m s r f left c;
            below = ltb-true z m.size t.0;
            order = order_means m z r t.1;
          };
          is = let q = p.1 in cc;
        }

-- ---- what seeking finds

-- a rung of a ladder of numbers is a code below the size
rung_below : (m : Meaning) → Laws m → (x r k : ℕ) → rung (multiplication m) x r k < m.size
rung_below m laws x r zero = rw rung_0 (laws.product_below 1 x)
rung_below m laws x r (suc k) = rw rung_suc (power_below m laws (rung (multiplication m) x r k) r)

-- What a ladder's rung that passes a test comes to: it passes, and is below the size.
pub passing_means : (m : Meaning) → Laws m → (test : ℕ → Bool) (code exponent by length : ℕ) (back : Back) (z : ℕ)
    → passing test (climbed (multiplication m) code exponent by length back) ≡ Some z → (test z ≡ true) × (z < m.size)
passing_means m laws test code exponent by length back z e =
    from (rank (multiplication m) start by length) e
  where
    start : ℕ
    start = power m code exponent

    tested : (w : ℕ) → w < m.size → cond (test w) (Some w) None ≡ Some z → (test z ≡ true) × (z < m.size)
    tested w below e =
        ⊎_elim
        (λ (t : test w ≡ true). let got : Some w ≡ Some z = sym (cond-true (test w) (Some w) None t) ∙ e in
        let same : w ≡ z = cc in
        (sym (ap test same) ∙ t, subst (λ x. x < m.size) same below))
        (λ (f : test w ≡ false). absurd (some_apart z (sym e ∙ cond-false (test w) (Some w) None f)))
        (cases_Bool (test w))

    at : (b : Bool) (k : ℕ) → passing test (Ok (cond b (Some (rung (multiplication m) start by k)) None, 0)) ≡ Some z → (test z ≡ true) × (z < m.size)
    at true k e = tested (rung (multiplication m) start by k) (rung_below m laws start by k) e
    at false k e = absurd (some_apart z (sym e))

    from : (o : Option ℕ) → passing test (with_power (joinings exponent) (laddered_at (multiplication m) start by back code o)) ≡ Some z → (test z ≡ true) × (z < m.size)
    from None e = absurd (some_apart z (sym e))
    from (Some k) e = at (leb (places back) k) (k - places back) e

pub sought_added : (m : Meaning) → Laws m → (s : State) (r f : ℕ) (done : ℕ × State) → sought m s r f ≡ Ok done → Added m s r f done
sought_added m laws s r f done e = from (checked m s r f) refl e
  where
    found : (left : ℕ) → checked m s r f ≡ Ok left → (o : Option ℕ) → first_some (leads m r) 1 (tries m) ≡ o → sought_found s r f left o ≡ Ok done → Added m s r f done
    found left c None e refused = absurd (ok_apart Unfound done refused)
    found left c (Some z) e taken =
        let l = first_some_found (leads m r) 1 (tries m) z e in
        let p = passing_means m laws (λ z. order_is m z r) l.0 _ r _ One z l.1.gives in
        record {
          z = z;
          left = left;
          adds = record { fits = checked_fits m s r f left c; below = p.1; order = order_means m z r p.0 };
          is = cc;
        }

    from : (o : Result ℕ Refusal) → checked m s r f ≡ o → sought_with m s r f o ≡ Ok done → Added m s r f done
    from (Err why) c refused = absurd (ok_apart why done refused)
    from (Ok left) c taken = found left c (first_some (leads m r) 1 (tries m)) refl taken

-- ---- accepted fourth roots

-- the answer is a number that squares to the negative of 1, and the draft holds it
pub record Set (m : Meaning) (s : State) (done : ℕ × State) : Type 0 where
  pub i : ℕ
  pub serves : served m.size ≡ true
  pub below : i < m.size
  pub squares : m.product i i ≡ m.negative 1
  pub is : done ≡ (i, giving s i)

pub given_set : (m : Meaning) (s : State) (i : ℕ) (done : ℕ × State) → given m s i ≡ Ok done → Set m s done
given_set m s i done e =
    let size = refuse_passed (not (served m.size)) Size _ done e in
    let p = refuse_passed (not (ltb i m.size && fourth_is m i)) Root (Ok (i, giving s i)) done size.1 in
    let t = and_parts (ltb i m.size) (fourth_is m i) (not-false _ p.0) in
    record {
      i = i;
      serves = not-false (served m.size) size.0;
      below = ltb-true i m.size t.0;
      squares = fourth_means m i t.1;
      is = let q = p.1 in cc;
    }

pub sought_fourth_set : (m : Meaning) → Laws m → (s : State) (done : ℕ × State) → sought_fourth m s ≡ Ok done → Set m s done
sought_fourth_set m laws s done e =
    let size = refuse_passed (not (served m.size)) Size _ done e in
    from (not-false (served m.size) size.0) (first_some (leads_fourth m) 1 (tries m)) refl size.1
  where
    from : served m.size ≡ true → (o : Option ℕ) → first_some (leads_fourth m) 1 (tries m) ≡ o → sought_fourth_found s o ≡ Ok done → Set m s done
    from ok None e refused = absurd (ok_apart Unfound done refused)
    from ok (Some i) e taken =
        let l = first_some_found (leads_fourth m) 1 (tries m) i e in
        let p = passing_means m laws (fourth_is m) l.0 _ 2 _ Two i l.1.gives in
        record { i = i; serves = ok; below = p.1; squares = fourth_means m i p.0; is = cc }

-- What a rooting that is answered has passed: the checks before its steps.
use Rattle.std.proofs.Common.{◌≡◌, ℕ, ◌≤◌, Bool, true, false, not, eqb, ltb, leb, Some, None, Ok, Option, refl}
use Rattle.std.proofs.lemmas.Bool.{not-false, ltb-false}
use Rattle.theory.specs.Meaning.{Meaning}
use Rattle.refusals.specs.declared.Refusal.{Refusal}
use Rattle.refusals.specs.declared.Refusal.TheVariants.{Size, NoFourth, Rest, Mark, Zero}
use Rattle.roots.specs.Rooting.{Steps, Roots, Answer, fails_if, tested, with_fourth, rooted, answered}
use Rattle.roots.specs.State.{State, served}
use Rattle.roots.proofs.Accepted.{ok_apart}

pub record Passed (m : Meaning) (s : State) (mark : ℕ) (x : Answer) : Type 0 where
  pub serves : served m.size ≡ true
  pub i : ℕ
  pub fourth : s.fourth ≡ Some i
  pub rest : s.rest ≤ 1024
  pub goes_on : answered (tested m i s mark) ≡ Ok x

-- what comes through a check: the check did not fail
fails_passed : (b : Bool) (why : Refusal) (n : ℕ) (steps : Steps Roots) (x : Answer) → answered (fails_if b why n steps) ≡ Ok x
    → (b ≡ false) × (answered steps ≡ Ok x)
fails_passed true why n steps x e = absurd (ok_apart why x e)
fails_passed false why n steps x e = (refl, e)

pub passed : (m : Meaning) (s : State) (mark : ℕ) (x : Answer) → answered (rooted m s mark) ≡ Ok x → Passed m s mark x
passed m s mark x e =
    let size = fails_passed (not (served m.size)) Size 0 (with_fourth m s mark s.fourth) x e in
    from (not-false (served m.size) size.0) s.fourth refl size.1
  where
    from : served m.size ≡ true → (o : Option ℕ) → s.fourth ≡ o → answered (with_fourth m s mark o) ≡ Ok x → Passed m s mark x
    from serves None is e = absurd (ok_apart NoFourth x e)
    from serves (Some i) is e =
        let rest = fails_passed (ltb 1024 s.rest) Rest 0 _ x e in
        let small = fails_passed (leb m.size mark) Mark 0 _ x rest.1 in
        let some = fails_passed (eqb mark 0) Zero 0 _ x small.1 in
        record {
          serves = serves;
          i = i;
          fourth = is;
          rest = ltb-false 1024 s.rest rest.0;
          goes_on = some.1;
        }

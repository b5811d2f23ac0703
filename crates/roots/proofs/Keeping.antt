-- What every list of calls keeps: it is enough that each factor taken and each fourth root set keeps it.
use Rattle.std.proofs.Common.{◌≡◌, ℕ, true, ◌⊎◌, List, [], ◌∷◌, Ok, Err, sym, refl, subst, inl, inr}
use Rattle.theory.specs.Meaning.{Meaning, Laws}
use Rattle.roots.specs.declared.call.Call.{Call}
use Rattle.roots.specs.Drafts.{Outcome, next, holding, giving}
use Rattle.roots.specs.Runs.{step, run_from}
use Rattle.roots.specs.State.{State, served}
use Rattle.roots.proofs.Accepted.{Adds}
use Rattle.roots.proofs.Sound.{Grown, Settled, accepted}

module _ (m : Meaning) (laws : Laws m) (P : State → Type 0)
    (holds : (s : State) (r f z left : ℕ) → Adds m s r f z left → P s → P (holding s r f z left))
    (gives : (s : State) (i : ℕ) → served m.size ≡ true → P s → P (giving s i)) where
  step_keeps : (s : State) (c : Call) → P s → P (next s (step m s c))
  step_keeps s c p = from (step m s c) refl
    where
      done_keeps : (done : ℕ × State) → Grown m s c done ⊎ Settled m s c done → P done.1
      done_keeps done (inl g) =
          let a = g.added in
          subst (λ (d : ℕ × State). P d.1) (sym a.is) (holds s g.r g.f a.z a.left a.adds p)
      done_keeps done (inr g) =
          let a = g.set in
          subst (λ (d : ℕ × State). P d.1) (sym a.is) (gives s a.i a.serves p)

      from : (o : Outcome) → step m s c ≡ o → P (next s o)
      from (Err why) e = p
      from (Ok done) e = done_keeps done (accepted m laws s c done e)

  pub run_keeps : (s : State) (calls : List Call) → P s → P (run_from m s calls)
  unfolding run_from
  run_keeps s [] p = p
  run_keeps s (c ∷ calls) p = run_keeps (next s (step m s c)) calls (step_keeps s c p)

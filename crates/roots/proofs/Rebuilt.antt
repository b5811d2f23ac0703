-- What a list of calls leaves can be made anew from what is held.
use Rattle.std.proofs.Common.{◌≡◌, ℕ, true, List, [], ◌∷◌, ◌++◌, Some, None, Ok, Err, Option, Result, sym, refl, ap, ◌∙◌}
use Rattle.theory.specs.Meaning.{Meaning}
use Rattle.theory.proofs.Search.{some_apart}
use Rattle.refusals.specs.declared.Refusal.{Refusal}
use Rattle.roots.specs.declared.call.Call.{Call}
use Rattle.roots.specs.declared.call.Call.TheVariants.{Adopt, Give}
use Rattle.roots.specs.declared.factor.Factor.{Factor}
use Rattle.roots.specs.Drafts.{Outcome, next, factor, holding, giving}
use Rattle.roots.specs.Laws.{adopting, giving_fourth, RunsRebuilt}
use Rattle.roots.specs.Runs.{step, run_from, run, tried}
use Rattle.roots.specs.State.{State, served, start}
use Rattle.roots.proofs.Accepted.{Adds, ok_apart}
pub use Rattle.roots.proofs.Fitting.{run_fits, run_few, fourth_some}
use Rattle.roots.proofs.Keeping.{run_keeps}
use Rattle.roots.proofs.Passes.{adopted_passes, given_passes}
use Rattle.roots.proofs.Runs.{runs_keep}

-- ---- lists of calls of which none may be refused

module _ (m : Meaning) (s : State) where
  pub tried_none : tried m s [] ≡ Ok s
  unfolding tried
  tried_none = refl

  pub tried_refused : (c : Call) (calls : List Call) (why : Refusal) → step m s c ≡ Err why → tried m s (c ∷ calls) ≡ Err why
  unfolding tried
  tried_refused c calls why e = rw (e, tried)

  pub tried_accepted : (c : Call) (calls : List Call) (done : ℕ × State) → step m s c ≡ Ok done → tried m s (c ∷ calls) ≡ tried m done.1 calls
  unfolding tried
  tried_accepted c calls done e = rw (e, tried)

  run_accepted : (c : Call) (calls : List Call) (done : ℕ × State) → step m s c ≡ Ok done → run_from m s (c ∷ calls) ≡ run_from m done.1 calls
  unfolding run_from
  run_accepted c calls done e = ap (λ (o : Outcome). run_from m (next s o) calls) e

-- Where none is refused, they leave what the list of calls leaves.
pub tried_run : (m : Meaning) (s t : State) (calls : List Call) → tried m s calls ≡ Ok t → t ≡ run_from m s calls
unfolding run_from
tried_run m s t [] e = let same : ◌≡◌ {A = Result State Refusal} (Ok s) (Ok t) = sym (tried_none m s) ∙ e in cc
tried_run m s t (c ∷ calls) e = from (step m s c) refl (λ done. tried_run m done.1 t calls)
  where
    from : (o : Outcome) → step m s c ≡ o → ((done : ℕ × State) → tried m done.1 calls ≡ Ok t → t ≡ run_from m done.1 calls)
        → t ≡ run_from m s (c ∷ calls)
    from (Err why) is below = absurd (ok_apart why t (sym (tried_refused m s c calls why is) ∙ e))
    from (Ok done) is below = below done (sym (tried_accepted m s c calls done is) ∙ e) ∙ sym (run_accepted m s c calls done is)

-- and what follows them goes on from there
pub tried_append : (m : Meaning) (s t : State) (xs ys : List Call) → tried m s xs ≡ Ok t → tried m s (xs ++ ys) ≡ tried m t ys
tried_append m s t [] ys e =
    let same : ◌≡◌ {A = Result State Refusal} (Ok s) (Ok t) = sym (tried_none m s) ∙ e in
    let at : s ≡ t = cc in
    ap (λ (u : State). tried m u ys) at
tried_append m s t (c ∷ calls) ys e = from (step m s c) refl (λ done. tried_append m done.1 t calls ys)
  where
    from : (o : Outcome) → step m s c ≡ o → ((done : ℕ × State) → tried m done.1 calls ≡ Ok t → tried m done.1 (calls ++ ys) ≡ tried m t ys)
        → tried m s (c ∷ (calls ++ ys)) ≡ tried m t ys
    from (Err why) is below = absurd (ok_apart why t (sym (tried_refused m s c calls why is) ∙ e))
    from (Ok done) is below = tried_accepted m s c (calls ++ ys) done is ∙ below done (sym (tried_accepted m s c calls done is) ∙ e)

-- ---- making it anew

-- the same without a fourth root
abbrev bare : State → State
bare s = record { factors = s.factors; rest = s.rest; fourth = None }

-- The held factors can be adopted anew, and only a served size has a fourth root.
record Rebuilds (m : Meaning) (s : State) : Type 0 where
  pub adopts : tried m (start m.size) (adopting s.factors) ≡ Ok (bare s)
  pub serves : (i : ℕ) → s.fourth ≡ Some i → served m.size ≡ true

adopting_more : (held : List Factor) (h : Factor) → adopting (held ++ (h ∷ [])) ≡ adopting held ++ (Adopt h.r h.f h.zeta ∷ [])
adopting_more [] h = refl
adopting_more (x ∷ held) h = ap (λ (calls : List Call). Adopt x.r x.f x.zeta ∷ calls) (adopting_more held h)

-- what a factor is tested by does not look at the fourth root
bare_adds : (m : Meaning) (s : State) (r f z left : ℕ) → Adds m s r f z left → Adds m (bare s) r f z left
bare_adds m s r f z left adds =
    let fits = adds.fits in
    record {
      fits = record {
        serves = fits.serves;
        room = fits.room;
        good = fits.good;
        some = fits.some;
        whole = fits.whole;
        apart = fits.apart;
      };
      below = adds.below;
      order = adds.order;
    }

start_rebuilds : (m : Meaning) → Rebuilds m (start m.size)
start_rebuilds m = record { adopts = tried_none m (start m.size); serves = λ i e. absurd (some_apart i (sym e)) }

holding_rebuilds : (m : Meaning) (s : State) (r f z left : ℕ) → Adds m s r f z left → Rebuilds m s → Rebuilds m (holding s r f z left)
holding_rebuilds m s r f z left adds built = record {
  adopts =
      ap (tried m (start m.size)) (adopting_more s.factors (factor r f z))
      ∙ tried_append m (start m.size) (bare s) (adopting s.factors) (Adopt r f z ∷ []) built.adopts
      ∙ tried_accepted m (bare s) (Adopt r f z) [] (z, holding (bare s) r f z left)
      (adopted_passes m (bare s) r f z left (bare_adds m s r f z left adds))
      ∙ tried_none m (holding (bare s) r f z left);
  serves = λ i e. adds.fits.serves;
}

giving_rebuilds : (m : Meaning) (s : State) (i : ℕ) → served m.size ≡ true → Rebuilds m s → Rebuilds m (giving s i)
giving_rebuilds m s i serves built = record { adopts = built.adopts; serves = λ j e. serves }

-- Adopting the held factors anew, in their order, and giving the fourth root makes what every list of calls leaves.
pub runs_rebuilt : RunsRebuilt
runs_rebuilt m laws calls = tried_append m (start m.size) (bare s) (adopting s.factors) (giving_fourth s.fourth) built.adopts ∙ from s.fourth refl
  where
    s : State
    s = run m calls

    built : Rebuilds m s
    built = run_keeps m laws (Rebuilds m) (holding_rebuilds m) (giving_rebuilds m) (start m.size) calls (start_rebuilds m)

    from : (o : Option ℕ) → s.fourth ≡ o → tried m (bare s) (giving_fourth o) ≡ Ok s
    from None e =
        tried_none m (bare s) ∙ ap (λ (o : Option ℕ). Ok (record { factors = s.factors; rest = s.rest; fourth = o })) (sym e)
    from (Some i) e =
        let root = (runs_keep m laws calls).squares i e in
        tried_accepted m (bare s) (Give i) [] (i, giving (bare s) i) (given_passes m (bare s) i (built.serves i e) root.0 root.1)
        ∙ tried_none m (giving (bare s) i)
        ∙ ap (λ (o : Option ℕ). Ok (record { factors = s.factors; rest = s.rest; fourth = o })) (sym e)

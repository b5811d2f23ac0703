-- What every list of calls keeps, and how what it leaves is read off the list.
use Rattle.std.proofs.Common.{◌≡◌, ℕ, ◌+◌, ◌*◌, ◌^◌, ◌⊎◌, List, [], ◌∷◌, length, Some, Ok, Err, Option, sym, refl, ap, ◌∙◌, subst, subst₂, inl, inr, mul_assoc, mul_comm, mul-one, arith, length-append}
use mathlib.Core.Path.{subst₃}
use native.Mathlib.Nat.{div-eq_of_eq-mul_left}
use Rattle.theory.specs.Meaning.{Meaning, Laws}
use Rattle.refusals.specs.declared.Refusal.{Refusal}
use Rattle.roots.specs.declared.call.Call.{Call}
use Rattle.roots.specs.Drafts.{Outcome, next, factor, holding, giving}
use Rattle.roots.specs.Laws.{taking, taken_from, multiplied, setting, fourth_from, RunsKeep}
use Rattle.roots.specs.Runs.{step, run_from, run}
use Rattle.roots.specs.State.{State, odd, start}
use Rattle.roots.proofs.Divisions.{right_some, odd_some}
use Rattle.roots.proofs.Sound.{Sound, Grown, Settled, accepted, start_sound, step_sound}

pub run_sound : (m : Meaning) → Laws m → (s : State) (calls : List Call) → Sound m s → Sound m (run_from m s calls)
unfolding run_from
run_sound m laws s [] sound = sound
run_sound m laws s (c ∷ calls) sound = run_sound m laws (next s (step m s c)) calls (step_sound m laws s c sound)

-- ---- reading off

-- What a run from s leaves, by the powers that its accepted calls take and by the fourth root that it ends with.
pub record Reading (s left : State) (powers : List ℕ) (i : Option ℕ) : Type 0 where
  pub number : length left.factors ≡ length s.factors + length powers
  pub rest : s.rest ≡ left.rest * multiplied powers
  pub fourth : left.fourth ≡ i

reads_none : (s : State) → Reading s s [] s.fourth
unfolding multiplied
reads_none s = record { number = omega arith; rest = sym (mul-one s.rest); fourth = refl }

reads_more : (s end : State) (r f z left : ℕ) (powers : List ℕ) (i : Option ℕ) → s.rest ≡ left * r ^ f → Reading (holding s r f z left) end powers i → Reading s end (r ^ f ∷ powers) i
unfolding multiplied
reads_more s end r f z left powers i whole reading = record {
  number = omega (arith, reading.number, length-append s.factors (factor r f z ∷ []));
  rest =
      whole ∙ ap (λ x. x * r ^ f) reading.rest ∙ mul_assoc end.rest (multiplied powers) (r ^ f)
      ∙ ap (λ x. end.rest * x) (mul_comm (multiplied powers) (r ^ f));
  fourth = reading.fourth;
}

reads_set : (s end : State) (j : ℕ) (powers : List ℕ) (i : Option ℕ) → Reading (giving s j) end powers i → Reading s end powers i
reads_set s end j powers i reading =
    record { number = reading.number; rest = reading.rest; fourth = reading.fourth }

-- a turn of the three recursions: a refused call, and an accepted one
module _ (m : Meaning) (s : State) (c : Call) (calls : List Call) where
  run_refused : (why : Refusal) → step m s c ≡ Err why → run_from m s (c ∷ calls) ≡ run_from m s calls
  unfolding run_from
  run_refused why e = ap (λ (o : Outcome). run_from m (next s o) calls) e

  taken_refused : (why : Refusal) → step m s c ≡ Err why → taken_from m s (c ∷ calls) ≡ taken_from m s calls
  unfolding taken_from
  taken_refused why e = rw (e, taken_from)

  fourth_refused : (why : Refusal) (i : Option ℕ) → step m s c ≡ Err why → fourth_from m s i (c ∷ calls) ≡ fourth_from m s i calls
  unfolding fourth_from
  fourth_refused why i e = rw (e, fourth_from)

  run_accepted : (done : ℕ × State) → step m s c ≡ Ok done → run_from m s (c ∷ calls) ≡ run_from m done.1 calls
  unfolding run_from
  run_accepted done e = ap (λ (o : Outcome). run_from m (next s o) calls) e

  taken_accepted : (done : ℕ × State) → step m s c ≡ Ok done → taken_from m s (c ∷ calls) ≡ taking c (taken_from m done.1 calls)
  unfolding taken_from
  taken_accepted done e = rw (e, taken_from)

  fourth_accepted : (done : ℕ × State) (i : Option ℕ) → step m s c ≡ Ok done → fourth_from m s i (c ∷ calls) ≡ fourth_from m done.1 (setting c done.0 i) calls
  unfolding fourth_from
  fourth_accepted done i e = rw (e, fourth_from)

abbrev Reads : Meaning → State → List Call → Type 0
Reads m s calls = Reading s (run_from m s calls) (taken_from m s calls) (fourth_from m s s.fourth calls)

-- an accepted call, from what the run goes on with
accepted_reads : (m : Meaning) → Laws m → (s : State) (c : Call) (done : ℕ × State) (calls : List Call) → step m s c ≡ Ok done → Reads m done.1 calls
    → Reading s (run_from m done.1 calls) (taking c (taken_from m done.1 calls)) (fourth_from m done.1 (setting c done.0 s.fourth) calls)
accepted_reads m laws s c done calls e below = from (accepted m laws s c done e)
  where
    end : State
    end = run_from m done.1 calls

    powers : List ℕ
    powers = taken_from m done.1 calls

    fourth : Option ℕ → Option ℕ
    fourth i = fourth_from m done.1 i calls

    from : Grown m s c done ⊎ Settled m s c done → Reading s end (taking c powers) (fourth (setting c done.0 s.fourth))
    from (inl g) =
        let a = g.added in
        let kept : done.1.fourth ≡ s.fourth = ap (λ (d : ℕ × State). d.1.fourth) a.is in
        let on = subst (λ (d : ℕ × State). Reading d.1 end powers (fourth done.1.fourth)) a.is below in
        let more = reads_more s end g.r g.f a.z a.left powers (fourth done.1.fourth) a.adds.fits.whole on in
        subst₂ (Reading s end) (sym (g.takes powers)) (ap fourth (kept ∙ sym (g.sets s.fourth))) more
    from (inr g) =
        let a = g.set in
        let new : done.1.fourth ≡ Some done.0 = ap (λ (d : ℕ × State). d.1.fourth) a.is ∙ sym (ap (λ (d : ℕ × State). Some d.0) a.is) in
        let on = subst (λ (d : ℕ × State). Reading d.1 end powers (fourth done.1.fourth)) a.is below in
        let same = reads_set s end a.i powers (fourth done.1.fourth) on in
        subst₂ (Reading s end) (sym (g.takes powers)) (ap fourth (new ∙ sym (g.sets s.fourth))) same

-- What a run leaves is read off its list of calls, from any state.
pub reads : (m : Meaning) → Laws m → (s : State) (calls : List Call) → Reads m s calls
reads m laws s [] = unfold run_from taken_from fourth_from in reads_none s
reads m laws s (c ∷ calls) = from (step m s c) refl (reads m laws s calls) (λ done. reads m laws done.1 calls)
  where
    from : (o : Outcome) → step m s c ≡ o → Reads m s calls → ((done : ℕ × State) → Reads m done.1 calls) → Reads m s (c ∷ calls)
    from (Err why) e same next =
        subst₃ (Reading s) (sym (run_refused m s c calls why e)) (sym (taken_refused m s c calls why e))
        (sym (fourth_refused m s c calls why s.fourth e)) same
    from (Ok done) e same next =
        subst₃ (Reading s) (sym (run_accepted m s c calls done e)) (sym (taken_accepted m s c calls done e))
        (sym (fourth_accepted m s c calls done s.fourth e)) (accepted_reads m laws s c done calls e (next done))

-- ---- from the start

-- Every list of calls keeps what Kept says.
pub runs_keep : RunsKeep
runs_keep m laws calls =
    let sound = run_sound m laws (start m.size) calls (start_sound m laws) in
    let reading = reads m laws (start m.size) calls in
    let some = odd_some m.size laws.size_low (omega (arith, laws.size_high)) in
    let powers = multiplied (taken_from m (start m.size) calls) in
    record {
      whole = sound.whole;
      apart = sound.apart;
      orders = sound.orders;
      squares = sound.squares;
      number = omega (arith, reading.number);
      rest = sym (div-eq_of_eq-mul_left (right_some (run m calls).rest powers (odd m.size) some reading.rest) reading.rest);
      fourth = reading.fourth;
    }

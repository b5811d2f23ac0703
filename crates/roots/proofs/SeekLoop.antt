-- What a seeking finds: the first code from 1 on that leads to something.
use Rattle.std.proofs.Common.{◌≡◌, ℕ, ◌+◌, ◌-◌, ◌<◌, Some, None, Option, MatchOption, sym, ap, ◌∙◌, subst, arith}
use Rattle.std.proofs.iter.Yields.{nat_range_steps}
use Rattle.std.proofs.iter.runs.Sources.{range_runs}
use Rattle.std.specs.declared.ops.Range.{Range}
use Rattle.std.specs.Bool.{IsTrue}
use Rattle.std.specs.Iterator.Runs.{Run, SomeRun, ItemsCountUp, CallKeepsClosure, AllItemsGive, IsFirstToGive}
use Rattle.std.specs.Option.{option_map, IfSome, IsSomeAnd}
use denote.Param.Members.{Mut, Called}
use Rattle.theory.specs.First.{first_some}
use Rattle.theory.proofs.Search.{first_some_is, first_some_none_is}

itself : (o : Option ℕ) (n : ℕ) → option_map (λ y. y) o ≡ Some n → o ≡ Some n
itself None n e = e
itself (Some m) n e = e

-- What `find_map` gives over the codes from 1 to below an end, by a closure f that computes p.
module _ {F : Type 0} (g : Mut F (ℕ × Unit {0}) (Option ℕ)) (f : F) (p : ℕ → Option ℕ) (acts : (x : ℕ) (r : Option ℕ) (f' : F) → Called g f (x, tt) r f' → (f' ≡ f) × (r ≡ p x)) where
  -- what f gave at a place is what p gives at the code there
  gave : (o r : Option ℕ) (n : ℕ) → o ≡ Some n → IsSomeAnd o (λ x. Called g f (x, tt) r f) → p n ≡ r
  gave None r n e given = cc
  gave (Some x) r n e given =
      let same : x ≡ n = cc in ap p (sym same) ∙ sym (acts x r f given).1

  gave_if : (o : Option ℕ) (r : Option ℕ) (n : ℕ) → o ≡ Some n → IfSome o (λ x. Called g f (x, tt) r f) → p n ≡ r
  gave_if None r n e given = cc
  gave_if (Some x) r n e given = gave (Some x) r n e given

  -- a run counts up from 1, so place k holds the code 1 + k
  at : (end : ℕ) (run : Run nat_range_steps) → ItemsCountUp run 1 end → (k : ℕ) → k < run.len → run.at k ≡ Some (1 + k)
  at end run codes k h = itself (run.at k) (1 + k) (codes.3 k h)

  keeps : CallKeepsClosure g f
  keeps a r f' called = (acts a.0 r f' called).0

  abbrev pub Finds : Option ℕ → Run nat_range_steps → Type 0
  Finds r run = MatchOption r (IsTrue run.whole × AllItemsGive run g f None) (λ y. (i : ℕ) × (i < run.len) × (run.len ≡ i + 1) × IsFirstToGive run g f (Some y) None i)

  found : (end : ℕ) (r : Option ℕ) (run : Run nat_range_steps) → ItemsCountUp run 1 end → Finds r run → r ≡ first_some p 1 (end - 1)
  found end None run codes all =
      sym (first_some_none_is p 1 (end - 1) (λ j from below.
      let k : ℕ = j - 1 in
      let here : k < run.len = omega (arith, codes.1 all.0) in
      let place : 1 + k ≡ j = omega arith in
      subst (λ i. p i ≡ None) place (gave_if (run.at k) None (1 + k) (at end run codes k here) (all.1 keeps k))))
  found end (Some z) run codes hit =
      let i : ℕ = hit.0 in
      let first = hit.3 keeps in
      sym (first_some_is p 1 (end - 1) (1 + i) z (record {
        from = omega arith;
        within = omega (arith, codes.0, hit.1);
        gives = gave (run.at i) (Some z) (1 + i) (at end run codes i hit.1) first.0;
        before = λ j from below.
            let k : ℕ = j - 1 in
            let here : k < i = omega arith in
            let place : 1 + k ≡ j = omega arith in
            subst (λ i. p i ≡ None) place (gave (run.at k) None (1 + k) (at end run codes k (omega (arith, hit.1))) (first.1 k here));
      }))

  pub found_first : (end : ℕ) (r : Option ℕ) → SomeRun nat_range_steps (record { start = 1; end = end }) (Finds r)
      → r ≡ first_some p 1 (end - 1)
  found_first end r some =
      found end r some.0 (subst (λ (s : Range ℕ). ItemsCountUp some.0 s.start s.end) some.1 (range_runs some.0 some.0.seen)) some.2

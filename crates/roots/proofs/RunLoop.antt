-- The loop that runs a list of calls, turn by turn.
use Rattle.std.proofs.Common.{◌≡◌, ℕ, ◌+◌, ◌<◌, ◌≤◌, List, length, get_or, drop, sym, ap, ◌∙◌}
use Rattle.std.proofs.lemmas.List.{at_drop_more, at_drop_all}
use Rattle.theory.specs.Meaning.{Meaning}
use Rattle.roots.specs.declared.call.Call.{Call}
use Rattle.roots.specs.Drafts.{next}
use Rattle.roots.specs.Runs.{step, run_from, run}
use Rattle.roots.specs.State.{State, start}

module _ (m : Meaning) (calls : List Call) where
  -- s is what the calls so far came to, and the others lead on from it
  abbrev pub RunsOn : ℕ → State → Type 0
  RunsOn i s = run m calls ≡ run_from m s (drop i calls)

  pub runs_start : (n : Meaning) (s : State) → m ≡ n → s ≡ start n.size → RunsOn 0 s
  runs_start n s same e = sym (ap (λ t. run_from m t calls) (e ∙ sym (ap (λ k. start k.size) same)))

  -- one call more, over a field that means what the first one meant
  pub runs_turn : (n : Meaning) (i : ℕ) (d : Call) (s t : State) → i < length calls → n ≡ m → t ≡ next s (step n s (get_or calls i d)) → RunsOn i s → RunsOn (i + 1) t
  unfolding run_from
  runs_turn n i d s t h same e on =
      on ∙ at_drop_more (run_from m s) calls i d h
      ∙ sym (ap (λ u. run_from m u (drop (i + 1) calls)) (e ∙ ap (λ k. next s (step k s (get_or calls i d))) same))

  pub runs_end : (n : Meaning) (i : ℕ) (s : State) → length calls ≤ i → m ≡ n → RunsOn i s → s ≡ run n calls
  unfolding run_from
  runs_end n i s h same on = sym (on ∙ at_drop_all (run_from m s) calls i h) ∙ ap (λ k. run k calls) same

-- What the calls of a book leave where none of them is refused.
use Rattle.std.proofs.Common.{◌≡◌, ℕ, zero, suc, not, ◌&&◌, ltb, List, [], ◌∷◌, ◌++◌, Some, Ok, Err, Option, Result, sym, refl, ap, ◌∙◌}
use Rattle.std.proofs.lemmas.List.{append-nil, append_assoc}
use Rattle.theory.specs.Meaning.{Meaning}
use Rattle.refusals.specs.declared.Refusal.{Refusal}
use Rattle.refusals.specs.declared.Refusal.TheVariants.{Size, Root}
use Rattle.roots.specs.declared.call.Call.{Call}
use Rattle.roots.specs.declared.call.Call.TheVariants.{Adopt, Give}
use Rattle.roots.specs.declared.factor.Factor.{Factor}
use Rattle.roots.specs.Checks.{order_is, fourth_is}
use Rattle.roots.specs.Drafts.{Outcome, holding, giving, checked, adopted, adopted_with, given}
use Rattle.roots.specs.Laws.{adopting}
use Rattle.roots.specs.Runs.{step, tried}
use Rattle.roots.specs.State.{State, served}
use Rattle.roots.proofs.Accepted.{ok_apart, refuse_passed}
use Rattle.roots.proofs.Rebuilt.{tried_none, tried_refused, tried_accepted}
use Rattle.books.specs.Loading.{fourth_calls}

-- ---- one call

-- an accepted factor is held behind the others
adopted_leaves : (m : Meaning) (s : State) (r f z : ℕ) (done : ℕ × State) → adopted m s r f z ≡ Ok done → (left : ℕ) × (done ≡ (z, holding s r f z left))
adopted_leaves m s r f z done e = from (checked m s r f) e
  where
    from : (o : Result ℕ Refusal) → adopted_with m s r f z o ≡ Ok done → (left : ℕ) × (done ≡ (z, holding s r f z left))
    from (Err why) refused = absurd (ok_apart why done refused)
    from (Ok left) taken =
        let p = (refuse_passed (not (ltb z m.size && order_is m z r)) Root (Ok (z, holding s r f z left)) done taken).1 in
        (left, cc)

given_leaves : (m : Meaning) (s : State) (i : ℕ) (done : ℕ × State) → given m s i ≡ Ok done → done ≡ (i, giving s i)
given_leaves m s i done e =
    let size = refuse_passed (not (served m.size)) Size _ done e in
    let p = (refuse_passed (not (ltb i m.size && fourth_is m i)) Root (Ok (i, giving s i)) done size.1).1 in
    cc

-- The first of some calls is accepted, and the others go on from what it leaves.
first_accepted : (m : Meaning) (s t : State) (c : Call) (calls : List Call) → tried m s (c ∷ calls) ≡ Ok t → (done : ℕ × State) × (step m s c ≡ Ok done) × (tried m done.1 calls ≡ Ok t)
first_accepted m s t c calls e = from (step m s c) refl
  where
    from : (o : Outcome) → step m s c ≡ o → (done : ℕ × State) × (step m s c ≡ Ok done) × (tried m done.1 calls ≡ Ok t)
    from (Err why) is = absurd (ok_apart why t (sym (tried_refused m s c calls why is) ∙ e))
    from (Ok done) is = (done, is, sym (tried_accepted m s c calls done is) ∙ e)

-- ---- all the calls of a book

-- the fourth root after a word of the head: 0 gives none
abbrev pub fourth_left : ℕ → Option ℕ → Option ℕ
fourth_left zero before = before
fourth_left (suc i) before = Some (suc i)

-- The factors stand behind those held before, in their order, and the fourth root is the one given.
pub calls_leave : (m : Meaning) (s t : State) (held : List Factor) (i : ℕ) → tried m s (adopting held ++ fourth_calls i) ≡ Ok t → (t.factors ≡ s.factors ++ held) × (t.fourth ≡ fourth_left i s.fourth)
calls_leave m s t [] zero e =
    let same : ◌≡◌ {A = Result State Refusal} (Ok s) (Ok t) = sym (tried_none m s) ∙ e in
    let at : t ≡ s = cc in
    (ap (λ (u : State). u.factors) at ∙ sym (append-nil s.factors), ap (λ (u : State). u.fourth) at)
calls_leave m s t [] (suc i) e =
    let p = first_accepted m s t (Give (suc i)) [] e in
    let made = given_leaves m s (suc i) p.0 p.1 in
    let same : ◌≡◌ {A = Result State Refusal} (Ok p.0.1) (Ok t) = sym (tried_none m p.0.1) ∙ p.2 in
    let at : t ≡ giving s (suc i) = cc in
    (ap (λ (u : State). u.factors) at ∙ sym (append-nil s.factors), ap (λ (u : State). u.fourth) at)
calls_leave m s t (h ∷ held) i e =
    let p = first_accepted m s t (Adopt h.r h.f h.zeta) (adopting held ++ fourth_calls i) e in
    let made = adopted_leaves m s h.r h.f h.zeta p.0 p.1 in
    let at : p.0.1 ≡ holding s h.r h.f h.zeta made.0 = ap (λ (d : ℕ × State). d.1) made.1 in
    let below = calls_leave m p.0.1 t held i p.2 in (
      below.0 ∙ ap (λ (u : State). u.factors ++ held) at ∙ append_assoc s.factors (h ∷ []) held,
      below.1 ∙ ap (λ (u : State). fourth_left i u.fourth) at,
    )

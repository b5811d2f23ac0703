use Rattle.std.proofs.Common.{◌≡◌, cond, Ok, Err, sym, ap, ◌∙◌, arith}
use Rattle.std.proofs.lemmas.Result.{err_from_is_err_and}
use Rattle.theory.proofs.Search.{some_apart}
use Rattle.roots.proofs.Rows.{small_at, no_factor}
use Rattle.roots.proofs.SearchLoop.{searches_fault, searches_over, searches_missed, searches_matched, searches_end, over, answers_match, answers_none, tries_start, tries_turn, tries_match, tries_end}
use Rattle.roots.proofs.search.Search.first_match.Goals as goal
use Rattle.roots.proofs.search.Search.first_match.Goals.{then-loop-factor-test+in_ok-rung+in-Some+then-loop-j-test+then-matches_mark, else-loop-factor-test, then-served, else-served}

pub factor_rung-requires : goal.factor_rung-requires
factor_rung-requires g c =
    omega (arith, (small_at c.factors-factor-items.result.now c.loop-factor.factor-index no_factor c.factors-factor-items.ensures.small c.loop-factor-test.true).low)

pub returns-in_err-rung : goal.returns-in_err-rung
returns-in_err-rung g c =
    let p = err_from_is_err_and c.from_residual.result c.from_residual.ensures.1 in
    p.1 ∙ ap Err p.2
    ∙ searches_fault _ _ _ _ _ _ _ _ _ _ c.loop-factor-test.true c.loop-factor.invariant _ c.in_err-rung.ensures.value
    ∙ over _ _ _ _ _ _ c.factors-factor-items.ensures.value

pub loop-factor-preserved-in_default : goal.loop-factor-preserved-in_default
loop-factor-preserved-in_default g c =
    searches_over _ _ _ _ _ _ _ _ _ _ c.loop-factor-test.true c.loop-factor.invariant _
    (sym (ap (λ o. Ok (o, c.in_ok-rung.climbing)) c.in_default.is) ∙ c.in_ok-rung.ensures.value) c.in_ok-rung.ensures.few

pub loop-j-init : goal.loop-j-init
loop-j-init g c = tries_start _ _ _ _ _ _

pub loop-j-preserved : goal.loop-j-preserved
loop-j-preserved g c =
    tries_turn _ _ _ _ _ _ _ _ _ _ _ c.loop-j-test.true c.loop-j.invariant c.product-z.ensures c.turn-ratio.ensures c.if-matches_mark.ensures

pub loop-factor-preserved : goal.loop-factor-preserved
loop-factor-preserved g c =
    let small = small_at c.factors-factor-items.result.now c.loop-factor.factor-index no_factor c.factors-factor-items.ensures.small c.loop-factor-test.true in
    searches_missed _ _ _ _ _ _ _ _ _ _ c.loop-factor-test.true c.loop-factor.invariant _ _ _
    (sym (ap (λ o. Ok (o, c.in_ok-rung.climbing)) c.in-Some.is) ∙ c.in_ok-rung.ensures.value) c.in_ok-rung.ensures.few small.high
    (tries_end _ _ _ _ _ _ _ _ _ c.loop-j-test.false c.loop-j.auto._j-end c.loop-j.invariant)

pub returns-in_default-found : goal.returns-in_default-found
returns-in_default-found g c =
    let step : c.if-served.unlawful ≡ cond c.loop-factor-test.served 5 4 = elim c.if-served.branch [
      | then-served w ↦ w.unlawful-is ∙ ap (λ b. cond b 5 4) (sym w.if-served.true)
      | else-served w ↦ w.unlawful-is ∙ ap (λ b. cond b 5 4) (sym w.if-served.false)
    ] in
    elim c.loop-factor-test.branch [
      | then-loop-factor-test+in_ok-rung+in-Some+then-loop-j-test+then-matches_mark w ↦ absurd (some_apart _ (sym w.found-is ∙ c.in_default-found.is))
      | else-loop-factor-test w ↦
          answers_none _ _ _ _ _ _ c.factors-factor-items.ensures.value _ _ _ _ _ w.served-is step c.unlawful.ensures
          (searches_end _ _ _ _ _ _ _ _ _ w.loop-factor-test.false c.loop-factor.invariant)
    ]

pub returns : goal.returns
returns g c =
    elim c.loop-factor-test.branch [
      | then-loop-factor-test+in_ok-rung+in-Some+then-loop-j-test+then-matches_mark w ↦
          let hit = tries_match _ _ _ _ _ _ _ _ _ _ _ w.loop-j-test.true w.loop-j.invariant w.product-z.ensures w.turn-ratio.ensures w.if-matches_mark.ensures in
          answers_match _ _ _ _ _ _ c.factors-factor-items.ensures.value _ _ _ _ _ _ _ c.in-Some-found.is w.found-is w.tests-is w.joinings-is
          (searches_matched _ _ _ _ _ _ no_factor _ _ _ w.loop-factor-test.true c.loop-factor.invariant _ _ _ _
          (sym (ap (λ o. Ok (o, w.in_ok-rung.climbing)) w.in-Some.is) ∙ w.in_ok-rung.ensures.value) hit)
      | else-loop-factor-test w ↦ absurd (some_apart _ (sym c.in-Some-found.is ∙ w.found-is))
    ]

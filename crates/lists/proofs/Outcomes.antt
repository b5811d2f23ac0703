-- What a mark is rooted to takes at most 61 bytes of its line.
use Rattle.std.proofs.Common.{◌≡◌, ℕ, ◌<◌, ◌≤◌, List, Ok, Err, codes, Result, refl, arith}
use Rattle.theory.specs.Residues.{residues}
use Rattle.theory.proofs.ResidueLaws.{residues_laws_31}
use Rattle.refusals.specs.Number.{numbered}
use Rattle.refusals.specs.declared.Refusal.{Refusal}
use Rattle.roots.specs.declared.call.Call.{Call}
use Rattle.roots.specs.Rooting.{Answer, rooted, answered}
use Rattle.roots.specs.Runs.{run}
use Rattle.roots.proofs.Digits.{root_digits}
use Rattle.roots.proofs.Within.{root_within}
use Rattle.lists.specs.Texts.{noted, step_text, answer_text, outcome_text}
use Rattle.lists.proofs.Plain.{Plain, plain_append, plain_noted, plain_more}
use Rattle.lists.proofs.Refused.{plain_refused}
use Rattle.lists.proofs.Steps.{OneDigit, rooted_digit}

-- two roots of at most ten digits, and two counts of at most five
answer_plain : (a b made tests : ℕ) → a ≤ 2147483647 → b ≤ 2147483647 → made < 100000 → tests < 100000
    → Plain 61 (answer_text ((a, b), (made, tests)))
answer_plain a b made tests low-a low-b low-made low-tests =
    plain_append 17 44 (noted (codes " place ") a) _ (plain_noted 7 10 (codes " place ") a refl (omega arith) (omega arith) (omega arith))
    (plain_append 17 27 (noted (codes " other ") b) _ (plain_noted 7 10 (codes " other ") b refl (omega arith) (omega arith) (omega arith))
    (plain_append 15 12 (noted (codes " joinings ") made) (noted (codes " tests ") tests)
    (plain_noted 10 5 (codes " joinings ") made refl (omega arith) (omega arith) (omega arith))
    (plain_noted 7 5 (codes " tests ") tests refl (omega arith) (omega arith) (omega arith))))

-- After every list of calls, over the residues by every modulus of a book.
pub outcome_plain : (q : ℕ) → 2 ≤ q → q ≤ 2147483647 → (calls : List Call) (mark : ℕ)
    → Plain 61 (outcome_text (answered (rooted (residues q) (run (residues q) calls) mark)))
outcome_plain q low high calls mark =
    from (answered (rooted (residues q) (run (residues q) calls) mark)) refl (rooted_digit (residues q) (run (residues q) calls) mark)
  where
    from : (r : Result Answer Refusal) → answered (rooted (residues q) (run (residues q) calls) mark) ≡ r → OneDigit r → Plain 61 (outcome_text r)
    from (Err why) e digit =
        plain_more 18 61 _ (omega arith)
        (plain_append 11 7 (noted (codes " refused ") (numbered why)) (step_text why) (plain_refused 9 (codes " refused ") refl why) digit)
    from (Ok ((a, b), (made, tests))) e digit =
        let laws = residues_laws_31 q low high in
        let roots = root_within (residues q) laws calls mark a b (made, tests) e in
        let counts = root_digits (residues q) laws high calls mark a b made tests e in
        answer_plain a b made tests (omega (arith, roots.0)) (omega (arith, roots.1)) counts.0 counts.1

use Rattle.std.proofs.Common.{◌≡◌, ℕ, ◌-◌, min, Option, ap, ◌∙◌, rules, arith}
use Rattle.theory.specs.First.{first_some}
use Rattle.theory.specs.Operation.{multiplication}
use Rattle.joining.specs.Ladder.{climbed}
use Rattle.roots.specs.Drafts.{passing}
use Rattle.roots.specs.State.{multiplicity, cofactor}
use Rattle.roots.proofs.SeekLoop.{found_first}
use Rattle.roots.proofs.seek.first_led.Goals as goal

pub returns : goal.returns
returns g c test tells =
    let m = g.R.Ring.meaning c.args.ring.now in
    let lead : ℕ → Option ℕ = λ x. passing test (climbed (multiplication m) x (cofactor c.args.by (m.size - 1)) c.args.by (multiplicity c.args.by (m.size - 1)) c.args.back) in
    let tries : c.min.result - 1 ≡ min 4095 (m.size - 1) = omega (arith, c.min.ensures, c.size-size.ensures) in
    found_first _ _ lead (λ x r f q. (search rules, search rules)) _ _ c.find_map.ensures.runs ∙ ap (first_some lead 1) tries

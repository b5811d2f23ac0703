use Rattle.std.proofs.Common.{◌/◌}
use Rattle.roots.proofs.SearchLoop.{TriesOn, SearchesOn}
use Rattle.roots.proofs.search.Search.first_match.Given as goal

abbrev pub invariant-loop-j : goal.invariant-loop-j
invariant-loop-j g l =
    TriesOn (g.R.Ring.meaning l.self.ratios.ring.now) l.self.ratios.mark l.e l.factor.zeta (l.factor.r / 2) l._j l.z l.tests l.initial.tests

abbrev pub invariant-loop-factor : goal.invariant-loop-factor
invariant-loop-factor g l =
    SearchesOn (g.R.Ring.meaning l.self.ratios.ring.now) l.self.ratios.mark l.self.g l.n l.factor-items l.factor-index l.served l.joinings l.tests

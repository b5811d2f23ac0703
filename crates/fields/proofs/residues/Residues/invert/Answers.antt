use Rattle.std.proofs.Common.{◌≡◌, ℕ, ◌≤◌, eqb, inl, inr, arith}
use Rattle.std.specs.Bool.{then_some}
use Rattle.std.proofs.lemmas.Bool.Decides.{eqb_tells}
use Rattle.fields.specs.Inverse.{Inverse}
use Rattle.theory.proofs.Euclid.{Euclid, euclid_finds, euclid_misses, euclid_starts, euclid_turns}
use Rattle.fields.proofs.residues.Residues.invert.Goals as goal

-- What the last remainder r, and its multiplier t, say of the inverse.
answered : (q a r t s u : ℕ) → 2 ≤ q → Euclid q a r t s u → s ≡ 0 → Inverse q a (then_some (eqb r 1) t)
answered q a r t s u low e last =
    elim (eqb_tells r 1) [
      | inl found ↦ rw found.0 (e.first_below, euclid_finds q a r t s u low e found.1)
      | inr apart ↦ rw apart.0 (euclid_misses q a r t s u e last apart.1)
    ]

pub loop-s-init : goal.loop-s-init
loop-s-init c = rw c.remainder-s.ensures (euclid_starts c.args.self.now.q c.args.a c.args.self.now.low)

pub loop-s-preserved : goal.loop-s-preserved
loop-s-preserved c = euclid_turns _ _ _ _ _ _ (omega arith) c.loop-s.invariant (omega arith)

pub returns : goal.returns
returns c =
    rw c.then_some.ensures
    (answered _ _ _ _ _ _ c.args.self.now.low c.loop-s.invariant c.loop-s-test.false)

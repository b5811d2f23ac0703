-- The value of a ratio, from what a field answers for the inverse of its bottom.
use Rattle.std.proofs.Common.{◌≡◌, ℕ, Ok, Err, sym, ap, ◌∙◌}
use Rattle.theory.specs.Meaning.{Meaning, Laws}
use Rattle.ring.specs.declared.RingFault.{RingFault}
use Rattle.ring.specs.Inverse.{Inverted}
use Rattle.ring.proofs.InverseValue.{inverted_ok, inverted_err}
use Rattle.joining.specs.Fault.{fault_of}
use Rattle.joining.specs.Quotient.{quotient_by, quotient_of}

module _ (m : Meaning) (laws : Laws m) (top bottom : ℕ) where
  pub quotient_ok : (b : ℕ) → Inverted m bottom (Ok b) → Ok (m.product top b) ≡ quotient_of m top bottom
  quotient_ok b answer = sym (ap (quotient_by m top bottom) (inverted_ok m laws bottom b answer))

  pub quotient_err : (fault : RingFault) → Inverted m bottom (Err fault) → Err (fault_of fault) ≡ quotient_of m top bottom
  quotient_err fault answer =
      ap (λ (f : RingFault). Err (fault_of f)) answer.0
      ∙ sym (ap (quotient_by m top bottom) (inverted_err m laws bottom fault answer))

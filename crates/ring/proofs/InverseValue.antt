-- What a field's inverse answers is determined: it is the inverse of the meaning, where there is one.
use Rattle.std.proofs.Common.{◌≡◌, ℕ, Some, None, Ok, Err, Result}
use Rattle.theory.specs.Meaning.{Meaning, Laws, inverse}
use Rattle.theory.proofs.Inverses.{inverse_is, inverse_none}
use Rattle.ring.specs.declared.RingFault.{RingFault}
use Rattle.ring.specs.declared.RingFault.TheVariants.{NoInverse}
use Rattle.ring.specs.Inverse.{Inverted}

module _ (m : Meaning) (laws : Laws m) (a : ℕ) where
  -- The two ways out of a call: what the meaning's inverse is there.
  pub inverted_ok : (b : ℕ) → Inverted m a (Ok b) → inverse m a ≡ Some b
  inverted_ok b answer = inverse_is m laws a b answer.0 answer.1

  pub inverted_err : (fault : RingFault) → Inverted m a (Err fault) → inverse m a ≡ None
  inverted_err fault answer = inverse_none m a answer.1

  -- Both in one: the answer is read off the meaning's inverse.
  pub inverted_value : (r : Result ℕ RingFault) → Inverted m a r → r ≡ elim (inverse m a) [ Some b ↦ Ok b | None ↦ Err (NoInverse a) ]
  inverted_value (Ok b) answer = rw (inverted_ok b answer)
  inverted_value (Err fault) answer = rw (answer.0, inverted_err fault answer)

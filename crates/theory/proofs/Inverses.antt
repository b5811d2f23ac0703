-- The inverse that a meaning has: what the search for it gives.
use Rattle.std.proofs.Common.{◌≡◌, ℕ, ◌<◌, eqb, Some, None, arith}
use Rattle.std.proofs.lemmas.Bool.{eqb-true, eqb-false, eq-eqb, ne_eqb}
use Rattle.theory.specs.Meaning.{Meaning, Laws, Lawful, inverse}
use Rattle.theory.proofs.Fields.{inverse_unique, inverse_below}
use Rattle.theory.proofs.Search.{first_found, first_is, first_fails, first_none_is}

module _ (m : Meaning) where
  -- What `inverse` gives is an inverse below the size.
  pub inverse_some : (a b : ℕ) → inverse m a ≡ Some b → (b < m.size) × (m.product a b ≡ 1)
  inverse_some a b e =
      let found = first_found (λ i. eqb (m.product a i) 1) 0 m.size b e in
      (omega (arith, found.within), eqb-true (m.product a b) 1 found.passes)

  -- Where no number is an inverse, `inverse` gives none.
  pub inverse_none : (a : ℕ) → ((b : ℕ) → m.product a b ≡ 1 → ⊥) → inverse m a ≡ None
  inverse_none a never =
      first_none_is (λ i. eqb (m.product a i) 1) 0 m.size (λ j low high. ne_eqb (m.product a j) 1 (never j))

  -- Where `inverse` gives none, no number below the size is an inverse.
  pub inverse_missing : (a b : ℕ) → inverse m a ≡ None → b < m.size → m.product a b ≡ 1 → ⊥
  inverse_missing a b e below =
      eqb-false (m.product a b) 1 (first_fails (λ i. eqb (m.product a i) 1) 0 m.size e b (omega arith) (omega arith))

  -- An inverse below the size is what `inverse` gives.
  pub inverse_is : Laws m → (a b : ℕ) → b < m.size → m.product a b ≡ 1 → inverse m a ≡ Some b
  inverse_is laws a b below one = first_is (λ i. eqb (m.product a i) 1) 0 m.size b (record {
    from = omega arith;
    within = omega arith;
    passes = eq-eqb (m.product a b) 1 one;
    before = λ j low high. ne_eqb (m.product a j) 1 (λ also.
        let same : j ≡ b = inverse_unique m laws a j b (omega arith) below also one in absurd (omega arith));
  })

  -- In a lawful field every number but 0 has its inverse.
  pub inverse_lawful : Laws m → Lawful m → (a : ℕ) → 0 < a → a < m.size → (b : ℕ) × (inverse m a ≡ Some b)
  inverse_lawful laws lawful a low high =
      let i = inverse_below m laws lawful a low high in (i.0, inverse_is laws a i.0 i.2 i.3)

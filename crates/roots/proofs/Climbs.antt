-- Ladders that have a rank: what stands one or two before it.
use Rattle.std.proofs.Common.{◌≡◌, ℕ, zero, suc, ◌+◌, ◌-◌, ◌*◌, ◌^◌, ◌<◌, ◌≤◌, true, false, leb, ◌⊎◌, Some, None, Ok, Option, sym, ap, ◌∙◌, inl, inr, mul-one, arith}
use native.Mathlib.Nat.{pow-zero}
use Rattle.std.proofs.lemmas.Bool.{le-leb, cond-true}
use Rattle.theory.specs.Numbers.{joinings}
use Rattle.theory.specs.Operation.{Operation, OperationLaws, pow, rung, rank, before}
use Rattle.theory.proofs.Powers.{rung_pow}
use Rattle.theory.proofs.Search.{first_finds, first_found}
use Rattle.joining.specs.Ladder.{laddered_at, with_power, climbed}
use Rattle.joining.specs.declared.Back.{Back}
use Rattle.joining.specs.declared.Back.TheVariants.{One, Two}

module _ {E : Type 0} (o : Operation E) (laws : OperationLaws o) (g k r f : ℕ) where
  -- The power k × r ^ i of the element of g: rung i of the ladder from its power k by r.
  abbrev pub stage : ℕ → E
  stage i = pow o (o.element g) (k * r ^ i)

  -- The rank of the ladder is the least i whose power is spent.
  pub record Ranked (i : ℕ) : Type 0 where
    pub within : i ≤ f
    pub spent : o.spent (stage i) ≡ true
    pub earlier : (j : ℕ) → j < i → o.spent (stage j) ≡ false
    pub found : rank o (pow o (o.element g) k) r f ≡ Some i

  -- There is a rank where the last rung is spent.
  pub ranked : o.spent (stage f) ≡ true → (i : ℕ) × Ranked i
  ranked last =
      let is : (j : ℕ) → rung o (pow o (o.element g) k) r j ≡ stage j = rung_pow o laws (o.element g) k r in
      let search-it = first_finds (λ j. o.spent (rung o (pow o (o.element g) k) r j)) 0 (suc f) f
      (omega arith) (omega arith) (ap o.spent (is f) ∙ last) in
      let least = first_found (λ j. o.spent (rung o (pow o (o.element g) k) r j)) 0 (suc f) search-it.0 search-it.1 in (
        search-it.0,
        record {
          within = search-it.2;
          spent = sym (ap o.spent (is search-it.0)) ∙ least.passes;
          earlier = λ j h. sym (ap o.spent (is j)) ∙ least.before j (omega arith) h;
          found = search-it.1;
        },
      )

  climbed_at : (back : Back) (i : ℕ) → Ranked i
      → climbed o g k r f back ≡ with_power (joinings k) (laddered_at o (pow o (o.element g) k) r back g (Some i))
  climbed_at back i ranks =
      ap (λ (found : Option ℕ). with_power (joinings k) (laddered_at o (pow o (o.element g) k) r back g found)) ranks.found

  -- so many before the rank stands the power so many before, where there is one
  before_is : (back i k' : ℕ) → k' ≡ i + back → before o (pow o (o.element g) k) r back k' ≡ Some (stage i)
  before_is back i k' e =
      let less : k' - back ≡ i = omega arith in
      cond-true (leb back k') (Some (rung o (pow o (o.element g) k) r (k' - back))) None (le-leb back k' (omega arith))
      ∙ ap (λ (j : ℕ). Some (rung o (pow o (o.element g) k) r j)) less
      ∙ ap Some (rung_pow o laws (o.element g) k r i)

  -- Rung 0 is the power k.
  pub stage_0 : stage 0 ≡ pow o (o.element g) k
  stage_0 = ap (pow o (o.element g)) (ap (◌*◌ k) (pow-zero r) ∙ mul-one k)

  -- One before the rank stands nothing, if the power k is spent; else what is not spent and whose power r is.
  abbrev pub OneBefore : Type 0
  OneBefore =
      ((n : ℕ) × (o.spent (stage 0) ≡ true) × (climbed o g k r f One ≡ Ok (None, n)))
      ⊎ ((i n : ℕ) × (i < f) × (o.spent (stage i) ≡ false) × (o.spent (stage (suc i)) ≡ true)
      × (climbed o g k r f One ≡ Ok (Some (stage i), n)))

  pub climb_one : o.spent (stage f) ≡ true → OneBefore
  climb_one last = let found = ranked last in from found.0 found.1
    where
      from : (i : ℕ) → Ranked i → OneBefore
      from zero ranks = inl (_, ranks.spent, climbed_at One 0 ranks)
      from (suc i) ranks =
          inr (
            i,
            _,
            ranks.within,
            ranks.earlier i (omega arith),
            ranks.spent,
            climbed_at One (suc i) ranks
                ∙ ap (λ (e : Option E). Ok (e, joinings k + suc i * joinings r)) (before_is 1 i (suc i) (omega arith)),
          )

  -- Two before the rank stands nothing, if the power k or its power r is spent;
  -- else what has a power r that is not spent, with a power r that is.
  abbrev pub TwoBefore : Type 0
  TwoBefore =
      ((n : ℕ) × ((o.spent (stage 0) ≡ true) ⊎ (o.spent (stage 1) ≡ true)) × (climbed o g k r f Two ≡ Ok (None, n)))
      ⊎ ((i n : ℕ) × (i + 2 ≤ f) × (o.spent (stage (suc i)) ≡ false) × (o.spent (stage (suc (suc i))) ≡ true)
      × (climbed o g k r f Two ≡ Ok (Some (stage i), n)))

  pub climb_two : o.spent (stage f) ≡ true → TwoBefore
  climb_two last = let found = ranked last in from found.0 found.1
    where
      from : (i : ℕ) → Ranked i → TwoBefore
      from zero ranks = inl (_, inl ranks.spent, climbed_at Two 0 ranks)
      from (suc zero) ranks = inl (_, inr ranks.spent, climbed_at Two 1 ranks)
      from (suc (suc i)) ranks =
          inr (
            i,
            _,
            omega (arith, ranks.within),
            ranks.earlier (suc i) (omega arith),
            ranks.spent,
            climbed_at Two (suc (suc i)) ranks
                ∙ ap (λ (e : Option E). Ok (e, joinings k + suc (suc i) * joinings r)) (before_is 2 i (suc (suc i)) (omega arith)),
          )

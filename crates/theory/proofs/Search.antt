-- Searching: one turn of it, and what it finds.
use Rattle.std.proofs.Common.{◌≡◌, ℕ, zero, suc, ◌+◌, ◌-◌, ◌<◌, ◌≤◌, Bool, true, false, ◌⊎◌, Some, None, Option, sym, refl, ap, ◌∙◌, inl, inr, ⊎_elim, add-zero, add-suc, add-one, arith}
use Rattle.std.proofs.lemmas.Bool.{both_ways, cases_Bool, cases_order}
use Rattle.theory.specs.First.{first, first_some}

-- What a search by `first` finds: the least that passes, of the n from k.
pub record Least (p : ℕ → Bool) (k n i : ℕ) : Type 0 where
  pub from : k ≤ i
  pub within : i < k + n
  pub passes : p i ≡ true
  pub before : (j : ℕ) → k ≤ j → j < i → p j ≡ false

-- The same for `first_some`: the place i is the least where the test gives something, and it gives a.
pub record LeastSome {A : Type 0} (p : ℕ → Option A) (k n i : ℕ) (a : A) : Type 0 where
  pub from : k ≤ i
  pub within : i < k + n
  pub gives : p i ≡ Some a
  pub before : (j : ℕ) → k ≤ j → j < i → p j ≡ None

-- something is not nothing
pub some_apart : {A : Type 0} (a : A) → Some a ≡ None → ⊥
some_apart a e = let z : ◌≡◌ {A = ℕ} 0 1 = cc in omega arith

pub cases_option : {A : Type 0} (o : Option A) → (o ≡ None) ⊎ ((a : A) × (o ≡ Some a))
cases_option (Some a) = inr (a, refl)
cases_option None = inl refl

module _ (p : ℕ → Bool) where
  -- A turn: nothing is left, the test passes here, or the search goes on.
  pub first_none : (k : ℕ) → first p k 0 ≡ None
  unfolding first
  first_none k = refl

  pub first_here : (k n : ℕ) → p k ≡ true → first p k (suc n) ≡ Some k
  unfolding first
  first_here k n e = ap (λ (b : Bool). elim b [ true ↦ Some k | false ↦ first p (suc k) n ]) e

  pub first_later : (k n : ℕ) → p k ≡ false → first p k (suc n) ≡ first p (suc k) n
  unfolding first
  first_later k n e = ap (λ (b : Bool). elim b [ true ↦ Some k | false ↦ first p (suc k) n ]) e

  -- The same in a loop for k in 0..end: what is still to be searched begins at k and is end - k long.
  pub turn_none : (k end : ℕ) → end ≤ k → first p k (end - k) ≡ None
  turn_none k end h = let z : end - k ≡ 0 = omega arith in ap (first p k) z ∙ first_none k

  pub turn_here : (k end : ℕ) → k < end → p k ≡ true → first p k (end - k) ≡ Some k
  turn_here k end h e =
      let more : end - k ≡ suc (end - (k + 1)) = omega arith in ap (first p k) more ∙ first_here k (end - (k + 1)) e

  pub turn_later : (k end : ℕ) → k < end → p k ≡ false → first p k (end - k) ≡ first p (k + 1) (end - (k + 1))
  turn_later k end h e =
      let more : end - k ≡ suc (end - (k + 1)) = omega arith in
      ap (first p k) more ∙ first_later k (end - (k + 1)) e ∙ sym (ap (λ i. first p i (end - (k + 1))) (add-one k))

  -- the least from k + 1, where the test fails at k, is the least from k
  least_later : (k n i : ℕ) → p k ≡ false → Least p (suc k) n i → Least p k (suc n) i
  least_later k n i f l = record {
    from = omega (arith, l.from);
    within = omega (arith, add-suc k n, l.within);
    passes = l.passes;
    before = λ j low high. ⊎_elim
        (λ (e : k ≡ j). sym (ap p e) ∙ f)
        (⊎_elim (λ (h : k < j). l.before j h high) (λ (h : j < k). absurd (omega arith)))
        (cases_order k j);
  }

  -- What is found is the least that passes.
  pub first_found : (k n i : ℕ) → first p k n ≡ Some i → Least p k n i
  first_found k zero i e = absurd (some_apart i (sym e ∙ first_none k))
  first_found k (suc n) i e = ⊎_elim here (λ f. later f (first_found (suc k) n i)) (cases_Bool (p k))
    where
      here : p k ≡ true → Least p k (suc n) i
      here t =
          let same : Some k ≡ Some i = sym (first_here k n t) ∙ e in
          let at : k ≡ i = cc in
          record {
            from = omega arith;
            within = omega (arith, add-suc k n);
            passes = sym (ap p at) ∙ t;
            before = λ j low high. absurd (omega arith);
          }

      later : p k ≡ false → (first p (suc k) n ≡ Some i → Least p (suc k) n i) → Least p k (suc n) i
      later f found = least_later k n i f (found (sym (first_later k n f) ∙ e))

  -- The least that passes is found.
  pub first_is : (k n i : ℕ) → Least p k n i → first p k n ≡ Some i
  first_is k zero i l = absurd (omega (arith, add-zero k, l.from, l.within))
  first_is k (suc n) i l =
      ⊎_elim
      (λ (e : k ≡ i). first_here k n (ap p e ∙ l.passes) ∙ ap Some e)
      (⊎_elim
      (λ (h : k < i). first_later k n (l.before k (omega arith) h)
      ∙ first_is (suc k) n i (record {
        from = h;
        within = omega (arith, add-suc k n, l.within);
        passes = l.passes;
        before = λ j low high. l.before j (omega arith) high;
      }))
      (λ (h : i < k). absurd (omega (arith, l.from))))
      (cases_order k i)

  -- Where nothing is found, nothing passes.
  pub first_fails : (k n : ℕ) → first p k n ≡ None → (j : ℕ) → k ≤ j → j < k + n → p j ≡ false
  first_fails k zero e j low high = absurd (omega (arith, add-zero k))
  first_fails k (suc n) e j low high =
      ⊎_elim
      (λ (t : p k ≡ true). absurd (some_apart k (sym (first_here k n t) ∙ e)))
      (λ (f : p k ≡ false). ⊎_elim
      (λ (at : k ≡ j). sym (ap p at) ∙ f)
      (⊎_elim
      (λ (h : k < j). first_fails (suc k) n (sym (first_later k n f) ∙ e) j h (omega (arith, add-suc k n)))
      (λ (h : j < k). absurd (omega arith)))
      (cases_order k j))
      (cases_Bool (p k))

  -- Where nothing passes, nothing is found.
  pub first_none_is : (k n : ℕ) → ((j : ℕ) → k ≤ j → j < k + n → p j ≡ false) → first p k n ≡ None
  first_none_is k zero fails = first_none k
  first_none_is k (suc n) fails =
      first_later k n (fails k (omega arith) (omega (arith, add-suc k n)))
      ∙ first_none_is (suc k) n (λ j low high. fails j (omega arith) (omega (arith, add-suc k n)))

  -- Where something passes, something is found that is no later.
  pub first_finds : (k n i : ℕ) → k ≤ i → i < k + n → p i ≡ true → (j : ℕ) × (first p k n ≡ Some j) × (j ≤ i)
  first_finds k n i low high t = ⊎_elim none some (cases_option (first p k n))
    where
      none : first p k n ≡ None → (j : ℕ) × (first p k n ≡ Some j) × (j ≤ i)
      none e = absurd (both_ways (p i) (first_fails k n e i low high) t)

      some : ((j : ℕ) × (first p k n ≡ Some j)) → (j : ℕ) × (first p k n ≡ Some j) × (j ≤ i)
      some s = (s.0, s.1, at_most (cases_order s.0 i))
        where
          at_most : (s.0 ≡ i) ⊎ ((s.0 < i) ⊎ (i < s.0)) → s.0 ≤ i
          at_most (inl e) = omega arith
          at_most (inr (inl h)) = omega arith
          at_most (inr (inr h)) = absurd (both_ways (p i) ((first_found k n s.0 s.1).before i low h) t)

-- Tests that agree where they are asked find the same.
pub first_same : (p q : ℕ → Bool) (k n : ℕ) → ((j : ℕ) → k ≤ j → j < k + n → p j ≡ q j) → first p k n ≡ first q k n
first_same p q k zero agree = first_none p k ∙ sym (first_none q k)
first_same p q k (suc n) agree =
    let here : p k ≡ q k = agree k (omega arith) (omega (arith, add-suc k n)) in
    let rest : first p (suc k) n ≡ first q (suc k) n =
    first_same p q (suc k) n (λ j low high. agree j (omega arith) (omega (arith, add-suc k n))) in
    ⊎_elim
    (λ (t : p k ≡ true). first_here p k n t ∙ sym (first_here q k n (sym here ∙ t)))
    (λ (f : p k ≡ false). first_later p k n f ∙ rest ∙ sym (first_later q k n (sym here ∙ f)))
    (cases_Bool (p k))

module _ {A : Type 0} (p : ℕ → Option A) where
  -- A turn of `first_some`: nothing is left, the test gives something here, or the search goes on.
  pub first_some_none : (k : ℕ) → first_some p k 0 ≡ None
  unfolding first_some
  first_some_none k = refl

  pub first_some_here : (k n : ℕ) (a : A) → p k ≡ Some a → first_some p k (suc n) ≡ Some a
  unfolding first_some
  first_some_here k n a e = ap (λ (o : Option A). elim o [ Some b ↦ Some b | None ↦ first_some p (suc k) n ]) e

  pub first_some_later : (k n : ℕ) → p k ≡ None → first_some p k (suc n) ≡ first_some p (suc k) n
  unfolding first_some
  first_some_later k n e = ap (λ (o : Option A). elim o [ Some b ↦ Some b | None ↦ first_some p (suc k) n ]) e

  -- The same in a loop for k in 0..end.
  pub turn_some_none : (k end : ℕ) → end ≤ k → first_some p k (end - k) ≡ None
  turn_some_none k end h = let z : end - k ≡ 0 = omega arith in ap (first_some p k) z ∙ first_some_none k

  pub turn_some_here : (k end : ℕ) (a : A) → k < end → p k ≡ Some a → first_some p k (end - k) ≡ Some a
  turn_some_here k end a h e =
      let more : end - k ≡ suc (end - (k + 1)) = omega arith in
      ap (first_some p k) more ∙ first_some_here k (end - (k + 1)) a e

  pub turn_some_later : (k end : ℕ) → k < end → p k ≡ None → first_some p k (end - k) ≡ first_some p (k + 1) (end - (k + 1))
  turn_some_later k end h e =
      let more : end - k ≡ suc (end - (k + 1)) = omega arith in
      ap (first_some p k) more ∙ first_some_later k (end - (k + 1)) e
      ∙ sym (ap (λ i. first_some p i (end - (k + 1))) (add-one k))

  least_some_later : (k n i : ℕ) (a : A) → p k ≡ None → LeastSome p (suc k) n i a → LeastSome p k (suc n) i a
  least_some_later k n i a f l = record {
    from = omega (arith, l.from);
    within = omega (arith, add-suc k n, l.within);
    gives = l.gives;
    before = λ j low high. ⊎_elim
        (λ (e : k ≡ j). sym (ap p e) ∙ f)
        (⊎_elim (λ (h : k < j). l.before j h high) (λ (h : j < k). absurd (omega arith)))
        (cases_order k j);
  }

  -- What is found is given at the least place that gives something.
  pub first_some_found : (k n : ℕ) (a : A) → first_some p k n ≡ Some a → (i : ℕ) × LeastSome p k n i a
  first_some_found k zero a e = absurd (some_apart a (sym e ∙ first_some_none k))
  first_some_found k (suc n) a e =
      ⊎_elim (λ f. later f (first_some_found (suc k) n a)) (λ s. here s.0 s.1) (cases_option (p k))
    where
      here : (b : A) → p k ≡ Some b → (i : ℕ) × LeastSome p k (suc n) i a
      here b t = (
        k,
        record {
          from = omega arith;
          within = omega (arith, add-suc k n);
          gives = t ∙ sym (first_some_here k n b t) ∙ e;
          before = λ j low high. absurd (omega arith);
        },
      )

      later : p k ≡ None → (first_some p (suc k) n ≡ Some a → (i : ℕ) × LeastSome p (suc k) n i a) → (i : ℕ) × LeastSome p k (suc n) i a
      later f found =
          let l = found (sym (first_some_later k n f) ∙ e) in (l.0, least_some_later k n l.0 a f l.1)

  -- What the least place gives is found.
  pub first_some_is : (k n i : ℕ) (a : A) → LeastSome p k n i a → first_some p k n ≡ Some a
  first_some_is k zero i a l = absurd (omega (arith, add-zero k, l.from, l.within))
  first_some_is k (suc n) i a l =
      ⊎_elim
      (λ (e : k ≡ i). first_some_here k n a (ap p e ∙ l.gives))
      (⊎_elim
      (λ (h : k < i). first_some_later k n (l.before k (omega arith) h)
      ∙ first_some_is (suc k) n i a (record {
        from = h;
        within = omega (arith, add-suc k n, l.within);
        gives = l.gives;
        before = λ j low high. l.before j (omega arith) high;
      }))
      (λ (h : i < k). absurd (omega (arith, l.from))))
      (cases_order k i)

  -- Where nothing is found, no place gives anything.
  pub first_some_fails : (k n : ℕ) → first_some p k n ≡ None → (j : ℕ) → k ≤ j → j < k + n → p j ≡ None
  first_some_fails k zero e j low high = absurd (omega (arith, add-zero k))
  first_some_fails k (suc n) e j low high =
      ⊎_elim
      (λ (f : p k ≡ None). ⊎_elim
      (λ (at : k ≡ j). sym (ap p at) ∙ f)
      (⊎_elim
      (λ (h : k < j). first_some_fails (suc k) n (sym (first_some_later k n f) ∙ e) j h (omega (arith, add-suc k n)))
      (λ (h : j < k). absurd (omega arith)))
      (cases_order k j))
      (λ (t : (a : A) × (p k ≡ Some a)). absurd (some_apart t.0 (sym (first_some_here k n t.0 t.1) ∙ e)))
      (cases_option (p k))

  -- Where no place gives anything, nothing is found.
  pub first_some_none_is : (k n : ℕ) → ((j : ℕ) → k ≤ j → j < k + n → p j ≡ None) → first_some p k n ≡ None
  first_some_none_is k zero fails = first_some_none k
  first_some_none_is k (suc n) fails =
      first_some_later k n (fails k (omega arith) (omega (arith, add-suc k n)))
      ∙ first_some_none_is (suc k) n (λ j low high. fails j (omega arith) (omega (arith, add-suc k n)))

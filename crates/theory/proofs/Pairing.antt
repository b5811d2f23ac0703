-- The pairing lemma: in a list without repeats where each element has a partner, another element with which it joins to c,
-- the elements number 2k, and all of them join to the power k of c.
use Rattle.std.proofs.Common.{◌≡◌, ℕ, zero, suc, ◌+◌, ◌≤◌, List, [], ◌∷◌, length, sym, refl, ap, ◌∙◌, subst, inl, inr, le_refl, arith}
use Rattle.theory.specs.Operation.{Operation, pow}
use Rattle.theory.proofs.Lists.{Has, Distinct, without, length_without, without_has, has_without, without_gone, distinct_without, distinct_head}
use Rattle.theory.proofs.Powers.{pow_0, pow_suc_is}

-- All elements joined.
unfoldable pub joined : {E : Type 0} → Operation E → List E → E
joined o [] = o.neutral
joined o (x ∷ xs) = o.join x (joined o xs)

-- Each element has a partner, and no element joins to c with two of them.
pub record Partners {E : Type 0} (o : Operation E) (c : E) (xs : List E) : Type 0 where
  pub partner : (x : E) → Has x xs → (y : E) × Has y xs × (o.join x y ≡ c) × (x ≡ y → ⊥)
  pub unique : (x y z : E) → Has x xs → Has y xs → Has z xs → o.join x y ≡ c → o.join x z ≡ c → y ≡ z

-- The elements number k + k, and all of them join to the power k of c.
abbrev pub Paired : {E : Type 0} → Operation E → E → List E → Type 0
Paired o c xs = (k : ℕ) × (length xs ≡ k + k) × (joined o xs ≡ pow o c k)

module _ {E : Type 0} (o : Operation E) (comm : (a b : E) → o.join a b ≡ o.join b a)
    (assoc : (a b c : E) → o.join (o.join a b) c ≡ o.join a (o.join b c)) where
  -- an element taken out may be joined first
  pub joined_without : (x : E) (xs : List E) (h : Has x xs) → joined o xs ≡ o.join x (joined o (without x xs h))
  unfolding joined without
  joined_without x (y ∷ ys) (inl e) = ap (λ z. o.join z (joined o ys)) (sym e)
  joined_without x (y ∷ ys) (inr h) =
      ap (o.join y) (joined_without x ys h) ∙ sym (assoc y x (joined o (without x ys h)))
      ∙ ap (λ z. o.join z (joined o (without x ys h))) (comm y x) ∙ assoc x y (joined o (without x ys h))
  joined_without x [] h = absurd h

  -- The partner of the head, and what is left without both.
  module _ (c x : E) (ys : List E) (distinct : Distinct (x ∷ ys)) (pairs : Partners o c (x ∷ ys)) where
    mate : (y : E) × Has y (x ∷ ys) × (o.join x y ≡ c) × (x ≡ y → ⊥)
    mate = pairs.partner x (inl refl)

    mate_behind : Has mate.0 ys
    mate_behind = from mate.1
      where
        from : Has mate.0 (x ∷ ys) → Has mate.0 ys
        from (inl e) = absurd (mate.3 (sym e))
        from (inr h) = h

    abbrev rest : List E
    rest = without mate.0 ys mate_behind

    rest_has : (z : E) → Has z rest → Has z ys
    rest_has z h = without_has mate.0 ys mate_behind z h

    rest_distinct : Distinct rest
    rest_distinct = distinct_without mate.0 ys mate_behind distinct.1

    -- the partner of an element that is left is left
    rest_closed : (z : E) → Has z rest → (w : E) → Has w (x ∷ ys) → o.join z w ≡ c → Has w rest
    rest_closed z left w h e = from h
      where
        not_mate : z ≡ mate.0 → ⊥
        not_mate f = without_gone mate.0 ys mate_behind distinct.1 (subst (λ v. Has v rest) f left)

        not_head : z ≡ x → ⊥
        not_head f = distinct_head x ys distinct (subst (λ v. Has v ys) f (rest_has z left))

        from : Has w (x ∷ ys) → Has w rest
        from (inl f) =
            absurd
            (not_mate
            (pairs.unique x z mate.0 (inl refl) (inr (rest_has z left)) mate.1 (comm x z ∙ ap (o.join z) (sym f) ∙ e)
            mate.2))
        from (inr g) =
            has_without mate.0 ys mate_behind w
            (λ f. not_head
            (pairs.unique mate.0 z x mate.1 (inr (rest_has z left)) (inl refl)
            (comm mate.0 z ∙ ap (o.join z) (sym f) ∙ e) (comm mate.0 x ∙ mate.2)))
            g

    rest_partners : Partners o c rest
    rest_partners = record {
      partner = λ z left.
          let p = pairs.partner z (inr (rest_has z left)) in (p.0, rest_closed z left p.0 p.1 p.2, p.2, p.3);
      unique = λ u v w hu hv hw. pairs.unique u v w (inr (rest_has u hu)) (inr (rest_has v hv)) (inr (rest_has w hw));
    }

    -- the head and its partner join to c
    pair_more : Paired o c rest → Paired o c (x ∷ ys)
    unfolding joined
    pair_more (k, even, all) = (suc k, count, total)
      where
        count : suc (length ys) ≡ suc k + suc k
        count = omega (arith, length_without mate.0 ys mate_behind, even)

        total : o.join x (joined o ys) ≡ pow o c (suc k)
        total =
            ap (o.join x) (joined_without mate.0 ys mate_behind) ∙ sym (assoc x mate.0 (joined o rest))
            ∙ ap (λ z. o.join z (joined o rest)) mate.2 ∙ ap (o.join c) all ∙ comm c (pow o c k) ∙ sym (pow_suc_is o c k)

  paired_in : (fuel : ℕ) (c : E) (xs : List E) → length xs ≤ fuel → Distinct xs → Partners o c xs → Paired o c xs
  unfolding joined
  paired_in fuel c [] h distinct pairs = (0, refl, sym (pow_0 o c))
  paired_in zero c (x ∷ ys) h distinct pairs = absurd (omega (arith, h))
  paired_in (suc fuel) c (x ∷ ys) h distinct pairs =
      pair_more c x ys distinct pairs
      (paired_in fuel c (rest c x ys distinct pairs) few (rest_distinct c x ys distinct pairs) (rest_partners c x ys distinct pairs))
    where
      few : length (rest c x ys distinct pairs) ≤ fuel
      few = omega (arith, length_without _ ys (mate_behind c x ys distinct pairs), h)

  -- the pairing lemma
  pub paired : (c : E) (xs : List E) → Distinct xs → Partners o c xs → Paired o c xs
  paired c xs distinct pairs = paired_in (length xs) c xs (le_refl (length xs)) distinct pairs

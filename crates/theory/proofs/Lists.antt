-- Lists: what holds of each element, what a list has, lists without repeats, and taking one element out.
use Rattle.std.proofs.Common.{◌≡◌, ℕ, zero, suc, ◌<◌, ◌⊎◌, List, [], ◌∷◌, length, sym, refl, ap, ◌∙◌, subst, inl, inr, arith}
use native.Mathlib.Decide.{ℕ_discrete}

-- P holds of each element.
abbrev pub All : {A : Type 0} → (A → Type 0) → List A → Type 0
All P [] = Unit {0}
All P (x ∷ xs) = P x × All P xs

-- x stands in the list.
abbrev pub Has : {A : Type 0} → A → List A → Type 0
Has x [] = ⊥
Has x (y ∷ ys) = (x ≡ y) ⊎ Has x ys

-- No element stands twice.
abbrev pub Distinct : {A : Type 0} → List A → Type 0
Distinct [] = Unit {0}
Distinct (x ∷ xs) = All (λ y. x ≡ y → ⊥) xs × Distinct xs

module _ {A : Type 0} where
  -- what holds of each element holds of one that stands there, and back
  pub all_has : (P : A → Type 0) (xs : List A) → All P xs → (x : A) → Has x xs → P x
  all_has P (y ∷ ys) all x (inl e) = subst P (sym e) all.0
  all_has P (y ∷ ys) all x (inr h) = all_has P ys all.1 x h
  all_has P [] all x h = absurd h

  pub has_all : (P : A → Type 0) (xs : List A) → ((x : A) → Has x xs → P x) → All P xs
  has_all P [] each = tt
  has_all P (y ∷ ys) each = (each y (inl refl), has_all P ys (λ x h. each x (inr h)))

  -- what follows for each element holds of each element
  pub all_map : (P Q : A → Type 0) (xs : List A) → ((x : A) → P x → Q x) → All P xs → All Q xs
  all_map P Q xs step all = has_all Q xs (λ x h. step x (all_has P xs all x h))

  -- the head of a list without repeats stands nowhere else
  pub distinct_head : (x : A) (xs : List A) → Distinct (x ∷ xs) → Has x xs → ⊥
  distinct_head x xs distinct h = all_has (λ y. x ≡ y → ⊥) xs distinct.0 x h refl

  -- the list without the element that stands at this place
  unfoldable pub without : (x : A) (xs : List A) → Has x xs → List A
  without x (y ∷ ys) (inl e) = ys
  without x (y ∷ ys) (inr h) = y ∷ without x ys h
  without x [] h = absurd h

  -- one element fewer is left
  pub length_without : (x : A) (xs : List A) (h : Has x xs) → suc (length (without x xs h)) ≡ length xs
  unfolding without
  length_without x (y ∷ ys) (inl e) = refl
  length_without x (y ∷ ys) (inr h) = ap suc (length_without x ys h)
  length_without x [] h = absurd h

  -- what is left stood there before
  pub without_has : (x : A) (xs : List A) (h : Has x xs) (z : A) → Has z (without x xs h) → Has z xs
  unfolding without
  without_has x (y ∷ ys) (inl e) z g = inr g
  without_has x (y ∷ ys) (inr h) z (inl e) = inl e
  without_has x (y ∷ ys) (inr h) z (inr g) = inr (without_has x ys h z g)
  without_has x [] h z g = absurd h

  -- what stood there and is not the element taken out is left
  pub has_without : (x : A) (xs : List A) (h : Has x xs) (z : A) → (z ≡ x → ⊥) → Has z xs → Has z (without x xs h)
  unfolding without
  has_without x (y ∷ ys) (inl e) z other (inl f) = absurd (other (f ∙ sym e))
  has_without x (y ∷ ys) (inl e) z other (inr g) = g
  has_without x (y ∷ ys) (inr h) z other (inl f) = inl f
  has_without x (y ∷ ys) (inr h) z other (inr g) = inr (has_without x ys h z other g)
  has_without x [] h z other g = absurd h

  -- without repeats, nothing is left of the element taken out, and the rest has no repeats
  pub without_gone : (x : A) (xs : List A) (h : Has x xs) → Distinct xs → Has x (without x xs h) → ⊥
  unfolding without
  without_gone x (y ∷ ys) (inl e) distinct g = distinct_head y ys distinct (subst (λ z. Has z ys) e g)
  without_gone x (y ∷ ys) (inr h) distinct (inl e) = distinct_head y ys distinct (subst (λ z. Has z ys) e h)
  without_gone x (y ∷ ys) (inr h) distinct (inr g) = without_gone x ys h distinct.1 g
  without_gone x [] h distinct g = absurd h

  pub distinct_without : (x : A) (xs : List A) (h : Has x xs) → Distinct xs → Distinct (without x xs h)
  unfolding without
  distinct_without x (y ∷ ys) (inl e) distinct = distinct.1
  distinct_without x (y ∷ ys) (inr h) distinct = (
    has_all (λ z. y ≡ z → ⊥) (without x ys h)
        (λ z g. all_has (λ z. y ≡ z → ⊥) ys distinct.0 z (without_has x ys h z g)),
    distinct_without x ys h distinct.1,
  )
  distinct_without x [] h distinct = absurd h

  -- The list f 0, f 1, … with n elements, the last first.
  unfoldable pub images : (ℕ → A) → ℕ → List A
  images f zero = []
  images f (suc n) = f n ∷ images f n

  -- its length, what stands in it, and what holds of all of it
  pub length_images : (f : ℕ → A) (n : ℕ) → length (images f n) ≡ n
  unfolding images
  length_images f zero = refl
  length_images f (suc n) = ap suc (length_images f n)

  pub has_images : (f : ℕ → A) (n i : ℕ) → i < n → Has (f i) (images f n)
  unfolding images
  has_images f zero i h = absurd (omega arith)
  has_images f (suc n) i h = from (ℕ_discrete i n) (has_images f n i)
    where
      from : Dec (i ≡ n) → (i < n → Has (f i) (images f n)) → Has (f i) (f n ∷ images f n)
      from (yes e) back = inl (ap f e)
      from (no other) back = inr (back (omega arith))

  pub images_has : (f : ℕ → A) (n : ℕ) (x : A) → Has x (images f n) → (i : ℕ) × (i < n) × (x ≡ f i)
  unfolding images
  images_has f zero x h = absurd h
  images_has f (suc n) x (inl e) = (n, omega arith, e)
  images_has f (suc n) x (inr h) = let found = images_has f n x h in (found.0, omega (arith, found.1), found.2)

  pub all_images : (P : A → Type 0) (f : ℕ → A) (n : ℕ) → ((i : ℕ) → i < n → P (f i)) → All P (images f n)
  all_images P f n each =
      has_all P (images f n) (λ x h. let found = images_has f n x h in subst P (sym found.2) (each found.0 found.1))

  -- images of numbers with different images have no repeats
  pub distinct_images : (f : ℕ → A) (n : ℕ) → ((i j : ℕ) → i < j → j < n → f i ≡ f j → ⊥) → Distinct (images f n)
  unfolding images
  distinct_images f zero apart = tt
  distinct_images f (suc n) apart = (
    all_images (λ y. f n ≡ y → ⊥) f n (λ i h e. apart i n h (omega arith) (sym e)),
    distinct_images f n (λ i j h g. apart i j h (omega arith)),
  )

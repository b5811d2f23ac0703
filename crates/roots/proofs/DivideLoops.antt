-- The loops that divide one number out of another, turn by turn.
use Rattle.std.proofs.Common.{◌≡◌, ℕ, zero, suc, ◌+◌, ◌-◌, ◌/◌, ◌%◌, ◌^◌, ◌<◌, ◌≤◌, Bool, true, false, cond, eqb, List, [], ◌∷◌, length, Some, None, Option, MatchOption, sym, refl, ap, ap₂, ◌∙◌, subst, mul_comm, zero-add, mod-lt, zero-lt-suc, pow-suc, div-one, add-one, arith}
use Rattle.std.proofs.iter.Yields.{nat_range_steps}
use Rattle.std.proofs.iter.runs.Sources.{range_runs}
use Rattle.std.specs.declared.ops.Range.{Range}
use Rattle.std.specs.Iterator.{Yields, YieldsThen}
use Rattle.std.specs.Iterator.Runs.{Run}
use Rattle.std.specs.List.{fold, FoldsTo}
use denote.Param.Members.{Mut, Called}
use native.Mathlib.Nat.{pow-zero, div-div-eq-div-mul}
use Rattle.std.proofs.lemmas.Bool.{eq-eqb, ne_eqb, eqb-true}
use Rattle.roots.specs.Checks.{divided, parted_out, gcd_in, gcd}
use Rattle.roots.specs.State.{multiplicity_in, multiplicity, cofactor}

-- ---- divisions in a row

pub power_starts : (n r : ℕ) → n ≡ n / r ^ 0
power_starts n r = sym (ap (λ d. n / d) (pow-zero r) ∙ div-one n)

pub power_turn : (n r i left : ℕ) → left ≡ n / r ^ i → left / r ≡ n / r ^ (i + 1)
power_turn n r i left e =
    ap (λ k. k / r) e ∙ div-div-eq-div-mul n (r ^ i) r
    ∙ sym (ap (λ d. n / d) (ap (λ k. r ^ k) (add-one i) ∙ pow-suc r i))

pub power_over : (r n : ℕ) (xs : List ℕ) → fold (λ left _. left / r) n xs ≡ n / r ^ length xs
power_over r n [] = power_starts n r
power_over r n (x ∷ xs) =
    power_over r (n / r) xs ∙ div-div-eq-div-mul n r (r ^ length xs)
    ∙ ap (λ d. n / d) (mul_comm r (r ^ length xs) ∙ sym (pow-suc r (length xs)))

-- a whole run of a range has so many items
pub whole_run : (n : ℕ) (run : Run nat_range_steps) → run.from ≡ record { start = 0; end = n } → run.whole ≡ true → length run.items ≡ n
whole_run n run from whole =
    omega (arith, run.long, (range_runs run run.seen).1 whole, ap (λ (s : Range ℕ). s.start) from, ap (λ (s : Range ℕ). s.end) from)

-- ---- a given number of divisions

divided_more : (r k n : ℕ) → n % r ≡ 0 → divided r (suc k) n ≡ divided r k (n / r)
unfolding divided
divided_more r k n e = ap (λ b. elim b [ true ↦ divided r k (n / r) | false ↦ None ]) (eq-eqb (n % r) 0 e)

divided_stops : (r k n : ℕ) → (n % r ≡ 0 → ⊥) → divided r (suc k) n ≡ None
unfolding divided
divided_stops r k n e = ap (λ b. elim b [ true ↦ divided r k (n / r) | false ↦ None ]) (ne_eqb (n % r) 0 e)

divided_none : (r n : ℕ) → divided r 0 n ≡ Some n
unfolding divided
divided_none r n = refl

parted_some : (r f n : ℕ) → (f ≡ 0 → ⊥) → parted_out r f n ≡ divided r f n
parted_some r zero n some = absurd (some refl)
parted_some r (suc f) n some = refl

-- so many items of a range
counted : (xs : List ℕ) (s t : Range ℕ) → Yields nat_range_steps s xs t → (t.end ≡ s.end) × (t.start ≡ s.start + length xs) × (length xs ≤ s.end - s.start)
counted [] s t y = (sym (ap (λ k. k.end) y), omega (arith, ap (λ (k : Range ℕ). k.start) y), omega arith)
counted (x ∷ xs) s t y =
    let more = counted xs y.0 t y.2 in
    (more.0 ∙ y.1.0, omega (arith, more.1, y.1.1.2), omega (arith, more.2, y.1.0, y.1.1.0, y.1.1.2))

-- What `try_fold` gives over so many turns, by a closure that divides by r where that leaves 0.
module _ {F : Type 0} (g : Mut F (ℕ × (ℕ × Unit {0})) (Option ℕ)) (h : F) (r : ℕ) (acts : (left x : ℕ) (v : Option ℕ) (h' : F) → Called g h (left, (x, tt)) v h' → (h' ≡ h) × (v ≡ cond (eqb (left % r) 0) (Some (left / r)) None)) where
  abbrev pub Turn : F × ℕ → ℕ → F × ℕ → Type 0
  Turn p x q = (v : Option ℕ) × Called g p.0 (p.1, (x, tt)) v q.0 × (v ≡ Some q.1)

  -- a turn that goes on divides once more
  goes_on : (left next : ℕ) → cond (eqb (left % r) 0) (Some (left / r)) None ≡ Some next → (left % r ≡ 0) × (left / r ≡ next)
  goes_on left next e = from (eqb (left % r) 0) refl e
    where
      from : (b : Bool) → eqb (left % r) 0 ≡ b → cond b (Some (left / r)) None ≡ Some next → (left % r ≡ 0) × (left / r ≡ next)
      from true is e = (eqb-true (left % r) 0 is, cc)
      from false is e = cc

  -- one that breaks off doesn't leave 0
  breaks : (left : ℕ) → cond (eqb (left % r) 0) (Some (left / r)) None ≡ None → left % r ≡ 0 → ⊥
  breaks left e whole =
      let some : Some (left / r) ≡ None = sym (ap (λ b. cond b (Some (left / r)) None) (eq-eqb (left % r) 0 whole)) ∙ e in cc

  turns : (xs : List ℕ) (p q : F × ℕ) → p.0 ≡ h → FoldsTo Turn p xs q → (q.0 ≡ h) × ((k : ℕ) → divided r (length xs + k) p.1 ≡ divided r k q.1)
  turns [] p q e same =
      (sym (ap (λ (s : F × ℕ). s.0) same) ∙ e, λ k. ap₂ (divided r) (zero-add k) (ap (λ (s : F × ℕ). s.1) same))
  turns (x ∷ xs) p q e (j, (v, called, goes), rest) =
      let act = acts p.1 x v j.0 (subst (λ (s : F). Called g s (p.1, (x, tt)) v j.0) e called) in
      let one = goes_on p.1 j.1 (sym act.1 ∙ goes) in
      let more = turns xs j q act.0 rest in (
        more.0,
        λ k. ap (λ i. divided r i p.1) (let s : length (x ∷ xs) + k ≡ suc (length xs + k) = omega arith in s)
            ∙ divided_more r (length xs + k) p.1 one.0 ∙ ap (divided r (length xs + k)) one.1 ∙ more.1 k,
      )

  -- what the turns hand over, and how they end
  abbrev pub Ended : Type 0 → ℕ → Option ℕ → Option ℕ → F → Type 0
  Ended N a o i h' = MatchOption i (o ≡ Some a) (λ x. (v : Option ℕ) × (q : F) × (e : N) × Called g h' (a, (x, tt)) v q × (v ≡ None) × (o ≡ None))

  pub divides : {N : Type 0} (f n : ℕ) (o : Option ℕ) (u : Range ℕ) → (f ≡ 0 → ⊥)
      → (xs : List ℕ) × (i : Option ℕ) × (h' : F) × (a : ℕ) × YieldsThen nat_range_steps (record { start = 0; end = f }) xs i u × FoldsTo Turn (h, n) xs (h', a) × Ended N a o i h'
      → o ≡ parted_out r f n
  divides {N} f n o u some (xs, i, h', a, (t, yielded, last), folded, ended) =
      let count = counted xs (record { start = 0; end = f }) t yielded in
      let turned = turns xs (h, n) (h', a) refl folded in
      by count turned i last ended ∙ sym (parted_some r f n some)
    where
      by : (t.end ≡ f) × (t.start ≡ 0 + length xs) × (length xs ≤ f - 0) → (h' ≡ h) × ((k : ℕ) → divided r (length xs + k) n ≡ divided r k a)
          → (i : Option ℕ) → nat_range_steps t i u → Ended N a o i h' → o ≡ divided r f n
      by count turned None last ended =
          let all : f ≡ length xs + 0 = omega (arith, count, last.1.0) in
          ended ∙ sym (ap (λ k. divided r k n) all ∙ turned.1 0 ∙ divided_none r a)
      by count turned (Some x) last (v, q, e, called, broke, is) =
          let k : ℕ = f - (length xs + 1) in
          let more : f ≡ length xs + suc k = omega (arith, count, last.1.0) in
          let act = acts a x v q (subst (λ (s : F). Called g s (a, (x, tt)) v q) turned.0 called) in
          is ∙ sym (ap (λ k. divided r k n) more ∙ turned.1 (suc k) ∙ divided_stops r k a (breaks a (sym act.1 ∙ broke)))

-- ---- as often as it goes

module _ (r n : ℕ) where
  pub record GoesOn (i left : ℕ) : Type 0 where
    pub left_is : left ≡ n / r ^ i
    pub times_is : multiplicity r n ≡ i + multiplicity_in (64 - i) r left

  pub record Gone (left times : ℕ) : Type 0 where
    pub left_is : left ≡ cofactor r n
    pub times_is : times ≡ multiplicity r n
    pub few : times ≤ 64

  pub goes_starts : GoesOn 0 n
  unfolding multiplicity
  goes_starts = record { left_is = power_starts n r; times_is = omega arith }

  pub goes_turn : (i left : ℕ) → i < 64 → left % r ≡ 0 → GoesOn i left → GoesOn (i + 1) (left / r)
  unfolding multiplicity_in
  goes_turn i left h e on =
      let step : multiplicity_in (64 - i) r left ≡ suc (multiplicity_in (64 - (i + 1)) r (left / r)) =
      ap (λ k. multiplicity_in k r left) (let m : 64 - i ≡ suc (64 - (i + 1)) = omega arith in m)
      ∙ ap (λ b. elim b [ true ↦ suc (multiplicity_in (64 - (i + 1)) r (left / r)) | false ↦ 0 ]) (eq-eqb (left % r) 0 e) in
      record {
        left_is = power_turn n r i left on.left_is;
        times_is = omega (arith, on.times_is);
      }

  gone : (i left : ℕ) → i ≤ 64 → left ≡ n / r ^ i → multiplicity r n ≡ i → Gone left i
  unfolding cofactor
  gone i left h e m = record { left_is = e ∙ sym (ap (λ k. n / r ^ k) m); times_is = sym m; few = h }

  pub goes_stops : (i left : ℕ) → i < 64 → (left % r ≡ 0 → ⊥) → GoesOn i left → Gone left i
  unfolding multiplicity_in
  goes_stops i left h e on =
      let step : multiplicity_in (64 - i) r left ≡ 0 =
      ap (λ k. multiplicity_in k r left) (let m : 64 - i ≡ suc (64 - (i + 1)) = omega arith in m)
      ∙ ap (λ b. elim b [ true ↦ suc (multiplicity_in (64 - (i + 1)) r (left / r)) | false ↦ 0 ]) (ne_eqb (left % r) 0 e) in
      gone i left (omega arith) on.left_is (omega (arith, on.times_is))

  pub goes_ends : (i left : ℕ) → i ≡ 64 → GoesOn i left → Gone left 64
  unfolding multiplicity_in
  goes_ends i left h on =
      let step : multiplicity_in (64 - i) r left ≡ 0 =
      ap (λ k. multiplicity_in k r left) (let m : 64 - i ≡ 0 = omega arith in m) in
      gone 64 left (omega arith) (on.left_is ∙ ap (λ k. n / r ^ k) h) (omega (arith, on.times_is))

-- ---- Euclid's divisions

-- any number of divisions above b is enough
gcd_enough : (d e a b : ℕ) → b < d → b < e → gcd_in d a b ≡ gcd_in e a b
unfolding gcd_in
gcd_enough zero e a b h k = absurd (omega arith)
gcd_enough (suc d) zero a b h k = absurd (omega arith)
gcd_enough (suc d) (suc e) a zero h k = refl
gcd_enough (suc d) (suc e) a (suc b) h k =
    let low : a % suc b < suc b = mod-lt a (zero-lt-suc b) in
    gcd_enough d e (suc b) (a % suc b) (omega arith) (omega arith)

pub gcd_turn : (a b : ℕ) → 0 < b → gcd a b ≡ gcd b (a % b)
unfolding gcd gcd_in
gcd_turn a zero h = absurd (omega arith)
gcd_turn a (suc b) h =
    let low : a % suc b < suc b = mod-lt a (zero-lt-suc b) in
    gcd_enough (suc b) (suc (a % suc b)) (suc b) (a % suc b) low (omega arith)

pub gcd_ends : (a b : ℕ) → b ≡ 0 → gcd a b ≡ a
unfolding gcd gcd_in
gcd_ends a zero h = refl
gcd_ends a (suc b) h = absurd (omega arith)

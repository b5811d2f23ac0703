-- A list from its lines, call by call.
use Rattle.std.proofs.Common.{◌≡◌, ℕ, suc, true, false, replicate, ◌+◌, ◌-◌, ◌<◌, ◌≤◌, List, [], ◌++◌, length, take, drop, Some, Ok, Err, Option, Result, sym, refl, ap, ◌∙◌, subst, append_assoc, add-one, arith}
use Rattle.std.proofs.lemmas.List.{append-nil, take_at}
use Rattle.std.proofs.lemmas.Bool.{true≢false}
use Rattle.std.specs.Fn.{FnOnceReturnsAtMut}
use Rattle.std.specs.Option.{is_some}
use denote.MutBor.{MutBor}
use denote.Param.Members.{Once}
use Rattle.refusals.specs.declared.Refusal.{Refusal}
use Rattle.books.specs.Output.{Written, left_by, length_by}
use Rattle.lists.specs.Calls.{Puts, PutsFront, lines_from, mark_called}

-- What a call has written, of the length that it answers, is its line.
front_is : (outcome : Written) (out after : List ℕ) (n : ℕ) → Ok n ≡ length_by outcome → after ≡ left_by outcome out → (text : List ℕ) × (outcome ≡ Ok text) × (n ≡ length text) × (take n after ≡ text)
front_is (Ok text) out after n value is =
    let same : n ≡ length text = cc in (
      text,
      refl,
      same,
      ap (take n) is ∙ ap (λ (k : ℕ). take k (text ++ drop (length text) out)) same ∙ take_at text (drop (length text) out) (length text) refl,
    )
front_is (Err why) out after n value is = let z : ◌≡◌ {A = ℕ} 0 1 = cc in absurd (omega arith)

-- so putting that front behind others is putting the line of the call
puts_line : (outcome : Written) (answer : Result ℕ Refusal) (out line before after : List ℕ) (put : Option ℕ)
    → answer ≡ length_by outcome → line ≡ left_by outcome out → PutsFront answer line before put after → Puts outcome before put after
puts_line outcome (Ok n) out line before after put value is puts =
    let front = front_is outcome out line n value is in
    subst (λ w. Puts w before put after) (sym front.1) (puts.0 ∙ ap (λ k. Some k) front.2, puts.1 ∙ ap (λ f. before ++ f) front.3)
puts_line (Ok text) (Err why) out line before after put value is puts = let z : ◌≡◌ {A = ℕ} 0 1 = cc in absurd (omega arith)
puts_line (Err other) (Err why) out line before after put value is puts = puts

-- The same of a call that put_line has made: what it answers of the bytes that it was shown, and what it left of them.
pub puts_called : {F : Type 0} {g : Once F (MutBor (List ℕ) × Unit {0}) (Result ℕ Refusal × (MutBor (List ℕ) × Unit {0}))} {f : F}
    → (call : List ℕ → Written) (before after : List ℕ) (put : Option ℕ)
    → (made : (answer : Result ℕ Refusal) × (line : List ℕ) × FnOnceReturnsAtMut g f (replicate 96 0) answer line × PutsFront answer line before put after)
    → made.0 ≡ length_by (call made.2.shown.now) → made.2.left.now ≡ left_by (call made.2.shown.now) made.2.shown.now
    → Puts (call (replicate 96 0)) before put after
puts_called call before after put made value left =
    let shows = made.2.shows in
    puts_line (call (replicate 96 0)) made.0 (replicate 96 0) made.1 before after put
    (value ∙ ap (λ l. length_by (call l)) shows)
    (sym made.2.leaves ∙ left ∙ ap (λ l. left_by (call l) l) shows) made.3

module _ (book track : List ℕ) where
  lines_more : (k n : ℕ) (outcome : Written) → mark_called book track k 96 ≡ outcome → lines_from book track k (suc n) ≡ elim outcome [ Err why ↦ [] | Ok text ↦ text ++ lines_from book track (suc k) n ]
  unfolding lines_from
  lines_more k n outcome e = ap (λ (w : Written). elim w [ Err why ↦ [] | Ok text ↦ text ++ lines_from book track (suc k) n ]) e

  lines_none : (k : ℕ) → lines_from book track k 0 ≡ []
  unfolding lines_from
  lines_none k = refl

  -- one line more
  pub lines_on : (k last : ℕ) (before after : List ℕ) (put : Option ℕ) → k < last → is_some put ≡ true → Puts (mark_called book track k 96) before put after → before ++ lines_from book track k (last - k) ≡ after ++ lines_from book track (k + 1) (last - (k + 1))
  lines_on k last before after put below there puts = from (mark_called book track k 96) refl puts
    where
      from : (w : Written) → mark_called book track k 96 ≡ w → Puts w before put after → before ++ lines_from book track k (last - k) ≡ after ++ lines_from book track (k + 1) (last - (k + 1))
      from (Ok text) e is =
          let left : last - k ≡ suc (last - (k + 1)) = omega arith in
          ap (λ (n : ℕ). before ++ lines_from book track k n) left
          ∙ ap (λ (rest : List ℕ). before ++ rest) (lines_more k (last - (k + 1)) (Ok text) e ∙ ap (λ (j : ℕ). text ++ lines_from book track j (last - (k + 1))) (sym (add-one k)))
          ∙ sym (append_assoc before text (lines_from book track (k + 1) (last - (k + 1))))
          ∙ ap (λ (b : List ℕ). b ++ lines_from book track (k + 1) (last - (k + 1))) (sym is.1)
      from (Err why) e is = absurd (true≢false (sym there ∙ ap is_some is.0))

  -- no line more
  pub lines_stop : (k last : ℕ) (before after : List ℕ) (put : Option ℕ) → k < last → is_some put ≡ false → Puts (mark_called book track k 96) before put after → after ≡ before ++ lines_from book track k (last - k)
  lines_stop k last before after put below none puts = from (mark_called book track k 96) refl puts
    where
      from : (w : Written) → mark_called book track k 96 ≡ w → Puts w before put after → after ≡ before ++ lines_from book track k (last - k)
      from (Ok text) e is = absurd (true≢false (sym (ap is_some is.0) ∙ none))
      from (Err why) e is =
          let left : last - k ≡ suc (last - (k + 1)) = omega arith in
          is.1 ∙ sym (append-nil before)
          ∙ ap (λ (rest : List ℕ). before ++ rest) (sym (ap (lines_from book track k) left ∙ lines_more k (last - (k + 1)) (Err why) e))

  pub lines_over : (k last : ℕ) (before : List ℕ) → last ≤ k → before ++ lines_from book track k (last - k) ≡ before
  lines_over k last before over =
      let none : last - k ≡ 0 = omega arith in
      ap (λ (rest : List ℕ). before ++ rest) (ap (lines_from book track k) none ∙ lines_none k) ∙ append-nil before

-- Loading, call by call: an accepted call goes on, and a refused one ends it.
use Rattle.std.proofs.Common.{◌≡◌, ℕ, zero, suc, ◌+◌, ◌-◌, ◌<◌, ◌≤◌, List, [], ◌∷◌, ◌++◌, Ok, Err, Result, sym, refl, ap, ◌∙◌, arith}
use Rattle.theory.specs.Meaning.{Meaning}
use Rattle.refusals.specs.declared.Refusal.{Refusal}
use Rattle.roots.specs.declared.call.Call.{Call}
use Rattle.roots.specs.Drafts.{Outcome, answer, next}
use Rattle.roots.specs.Laws.{giving_fourth}
use Rattle.roots.specs.Runs.{step, tried}
use Rattle.roots.specs.State.{State}
use Rattle.roots.proofs.Rebuilt.{tried_none, tried_refused, tried_accepted}
use Rattle.books.specs.Layout.{fourth_in, offset}
use Rattle.books.specs.Loading.{Tries, fourth_calls, records}
use Rattle.books.specs.Parts.{record_at}

module _ (m : Meaning) (s : State) (c : Call) (calls : List Call) where
  pub goes_on : (t : State) (z : ℕ) → Ok z ≡ answer (step m s c) → t ≡ next s (step m s c) → tried m s (c ∷ calls) ≡ tried m t calls
  goes_on t z a n = from (step m s c) refl a n
    where
      from : (o : Outcome) → step m s c ≡ o → Ok z ≡ answer o → t ≡ next s o → tried m s (c ∷ calls) ≡ tried m t calls
      from (Ok done) is answers leaves =
          tried_accepted m s c calls done is ∙ ap (λ (u : State). tried m u calls) (sym leaves)
      from (Err why) is answers leaves = let e : ◌≡◌ {A = ℕ} 0 1 = cc in absurd (omega arith)

  pub stops : (why : Refusal) → Err why ≡ answer (step m s c) → tried m s (c ∷ calls) ≡ Err why
  stops why a = from (step m s c) refl a
    where
      from : (o : Outcome) → step m s c ≡ o → Err why ≡ answer o → tried m s (c ∷ calls) ≡ Err why
      from (Ok done) is answers = let e : ◌≡◌ {A = ℕ} 0 1 = cc in absurd (omega arith)
      from (Err other) is answers = let same : ◌≡◌ {A = Refusal} other why = cc in tried_refused m s c calls other is ∙ ap Err same

-- what a refused call makes of the function that makes it
pub tries_refused : (outcome : Result State Refusal) (r : Result (Unit {0}) Refusal) (s : State) (why : Refusal) → r ≡ Err why → outcome ≡ Err why → Tries outcome r s
tries_refused outcome (Ok done) s why e is = let z : ◌≡◌ {A = ℕ} 0 1 = cc in absurd (omega arith)
tries_refused outcome (Err other) s why e is = let same : ◌≡◌ {A = Refusal} why other = cc in is ∙ ap Err same

-- calls that are refused stay so, whatever follows them
pub refused_append : (m : Meaning) (s : State) (xs ys : List Call) (why : Refusal) → tried m s xs ≡ Err why → tried m s (xs ++ ys) ≡ Err why
refused_append m s [] ys why e = let z : ◌≡◌ {A = Result State Refusal} (Ok s) (Err why) = sym (tried_none m s) ∙ e in let o : ◌≡◌ {A = ℕ} 0 1 = cc in absurd (omega arith)
refused_append m s (c ∷ calls) ys why e = from (step m s c) refl (λ done. refused_append m done.1 calls ys why)
  where
    from : (o : Outcome) → step m s c ≡ o → ((done : ℕ × State) → tried m done.1 calls ≡ Err why → tried m done.1 (calls ++ ys) ≡ Err why)
        → tried m s (c ∷ (calls ++ ys)) ≡ Err why
    from (Err other) is below = tried_refused m s c (calls ++ ys) other is ∙ sym (tried_refused m s c calls other is) ∙ e
    from (Ok done) is below = tried_accepted m s c (calls ++ ys) done is ∙ below done (sym (tried_accepted m s c calls done is) ∙ e)

-- ---- the fourth root

pub fourth_given : (i : ℕ) → giving_fourth (fourth_in i) ≡ fourth_calls i
fourth_given zero = refl
fourth_given (suc i) = refl

-- ---- records

records_none : (book : List ℕ) (at : ℕ) → records book at 0 ≡ []
unfolding records
records_none book at = refl

records_more : (book : List ℕ) (at n : ℕ) → records book at (suc n) ≡ record_at book at ∷ records book (at + 8) n
unfolding records
records_more book at n = refl

-- one record, and those behind it
pub records_turn : (book : List ℕ) (n k : ℕ) → k < n → records book (offset n k) (n - k) ≡ record_at book (offset n k) ∷ records book (offset n (k + 1)) (n - (k + 1))
records_turn book n k h =
    let left : n - k ≡ suc (n - (k + 1)) = omega arith in
    let next : offset n k + 8 ≡ offset n (k + 1) = omega arith in
    ap (records book (offset n k)) left ∙ records_more book (offset n k) (n - (k + 1))
    ∙ ap (λ at. record_at book (offset n k) ∷ records book at (n - (k + 1))) next

pub records_over : (book : List ℕ) (n k : ℕ) → n ≤ k → records book (offset n k) (n - k) ≡ []
records_over book n k h = let none : n - k ≡ 0 = omega arith in ap (records book (offset n k)) none ∙ records_none book (offset n k)

-- What a book that is loaded has been found to be.
use Rattle.std.proofs.Common.{◌≡◌, ℕ, ◌+◌, ◌*◌, ◌≤◌, true, not, ◌||◌, eqb, ltb, leb, List, length, Ok, Err, Result, sym, refl, ap, ◌∙◌, subst}
use Rattle.std.proofs.lemmas.Bool.{not-false, ltb-false, leb-true, eqb-true, and_parts, or_parts}
use Rattle.theory.specs.Residues.{residues}
use Rattle.refusals.specs.declared.Refusal.{Refusal}
use Rattle.refusals.specs.declared.Refusal.TheVariants.{Format, Layout, Modulus, Size}
use Rattle.roots.specs.declared.call.Call.{Call}
use Rattle.roots.specs.Runs.{tried}
use Rattle.roots.specs.State.{State, served, start}
use Rattle.roots.proofs.Accepted.{ok_apart, refuse_passed}
use Rattle.roots.proofs.Rebuilt.{tried_run}
use Rattle.octets.specs.Words.{word_at}
use Rattle.books.specs.Layout.{Head, head_of, offsets_right, laid_out, opened}
use Rattle.books.specs.Loading.{Bound, book_calls, with_modulus, loaded_over, loaded_with, loaded}
use Rattle.books.specs.RoundTrip.{LoadedRuns}

-- ---- the layout

pub record Laid (book : List ℕ) (n : ℕ) : Type 0 where
  pub format : word_at book 0 ≡ 1
  pub few : n ≤ 8
  pub whole : length book ≡ 16 + 12 * n
  pub offsets : offsets_right book n 0 n ≡ true

opened_laid : (book : List ℕ) (h : Head) → opened book ≡ Ok h → Laid book (head_of book).count × (h ≡ head_of book)
opened_laid book h e =
    let format = refuse_passed (ltb (length book) 16 || not (eqb (word_at book 0) 1)) Format _ h e in
    let layout = refuse_passed (not (laid_out book (head_of book).count)) Layout (Ok (head_of book)) h format.1 in
    let laid = and_parts (leb (head_of book).count 8) _ (not-false _ layout.0) in
    let rest = and_parts (eqb (length book) (16 + 12 * (head_of book).count)) _ laid.1 in
    let one = or_parts (ltb (length book) 16) (not (eqb (word_at book 0) 1)) format.0 in
    let same : ◌≡◌ {A = Result Head Refusal} (Ok (head_of book)) (Ok h) = layout.1 in (
      record {
        format = eqb-true (word_at book 0) 1 (not-false _ one.1);
        few = leb-true (head_of book).count 8 laid.0;
        whole = eqb-true (length book) (16 + 12 * (head_of book).count) rest.0;
        offsets = rest.1;
      },
      cc,
    )

-- ---- the modulus and the calls

-- A modulus that is served, and calls of which none is refused.
pub record Over (q : ℕ) (calls : List Call) (s : State) : Type 0 where
  pub low : 2 ≤ q
  pub high : q ≤ 2147483647
  pub serves : served q ≡ true
  pub accepted : tried (residues q) (start q) calls ≡ Ok s

with_modulus_passed : (p q : ℕ) (s : State) (o : Result State Refusal) → with_modulus p o ≡ Ok (q, s) → (p ≡ q) × (o ≡ Ok s)
with_modulus_passed p q s (Err why) e = absurd (ok_apart why (q, s) e)
with_modulus_passed p q s (Ok t) e =
    let same : ◌≡◌ {A = Bound} (p, t) (q, s) = cc in
    (ap (λ (b : Bound). b.0) same, ap (λ (b : Bound). Ok b.1) same)

over_passed : (p q : ℕ) (calls : List Call) (s : State) → loaded_over p calls ≡ Ok (q, s) → (p ≡ q) × Over q calls s
over_passed p q calls s e =
    let range = refuse_passed (ltb p 2 || ltb 2147483647 p) Modulus _ (q, s) e in
    let size = refuse_passed (not (served p)) Size _ (q, s) range.1 in
    let bounds = or_parts (ltb p 2) (ltb 2147483647 p) range.0 in
    let last = with_modulus_passed p q s (tried (residues p) (start p) calls) size.1 in
    let here : Over p calls s = record {
      low = ltb-false p 2 bounds.0;
      high = ltb-false 2147483647 p bounds.1;
      serves = not-false (served p) size.0;
      accepted = last.1;
    } in
    (last.0, subst (λ x. Over x calls s) last.0 here)

-- ---- both

pub record Loads (book : List ℕ) (q : ℕ) (s : State) : Type 0 where
  pub laid : Laid book (head_of book).count
  pub modulus : (head_of book).modulus ≡ q
  pub over : Over q (book_calls book (head_of book)) s

pub loaded_loads : (book : List ℕ) (q : ℕ) (s : State) → loaded book ≡ Ok (q, s) → Loads book q s
loaded_loads book q s e = from (opened book) refl e
  where
    from : (o : Result Head Refusal) → opened book ≡ o → loaded_with book o ≡ Ok (q, s) → Loads book q s
    from (Err why) is refused = absurd (ok_apart why (q, s) refused)
    from (Ok h) is taken =
        let found = opened_laid book h is in
        let same : loaded_with book (Ok h) ≡ loaded_with book (Ok (head_of book)) = ap (λ (g : Head). loaded_with book (Ok g)) found.1 in
        let passed = over_passed (head_of book).modulus q (book_calls book (head_of book)) s (sym same ∙ taken) in
        record { laid = found.0; modulus = passed.0; over = passed.1 }

-- What is loaded is what the calls of the book leave.
pub loaded_runs : LoadedRuns
loaded_runs book q s e =
    let over = (loaded_loads book q s e).over in
    record {
      low = over.low;
      high = over.high;
      serves = over.serves;
      calls = book_calls book (head_of book);
      run_is = tried_run (residues q) (start q) s (book_calls book (head_of book)) over.accepted;
    }

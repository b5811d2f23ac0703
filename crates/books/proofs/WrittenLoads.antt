-- The book of a plan is loaded as that plan.
use Rattle.std.proofs.Common.{◌≡◌, ℕ, zero, suc, ◌+◌, ◌*◌, ◌^◌, ◌<◌, ◌≤◌, true, not, ◌||◌, eqb, ltb, leb, List, [], ◌∷◌, ◌++◌, length, drop, Some, None, Ok, Option, sym, refl, ap, ◌∙◌, arith, length-append}
use Rattle.std.proofs.lemmas.List.{drop-drop, drop_at}
use Rattle.std.proofs.lemmas.Bool.{not_from_true, le-ltb, le-leb, eq-eqb, and_from, or_from}
use Rattle.std.specs.List.{AllByRecursion}
use Rattle.theory.specs.Meaning.{Laws}
use Rattle.theory.specs.Residues.{residues}
use Rattle.theory.proofs.ResidueLaws.{residues_laws_31}
use Rattle.refusals.specs.declared.Refusal.TheVariants.{Format, Layout, Modulus, Size}
use Rattle.roots.specs.declared.call.Call.{Call}
use Rattle.roots.specs.declared.factor.Factor.{Factor}
use Rattle.roots.specs.Laws.{adopting, giving_fourth, held_calls}
use Rattle.roots.specs.Runs.{run}
use Rattle.roots.specs.State.{State, served}
use Rattle.roots.proofs.Passes.{through}
use Rattle.roots.proofs.Rebuilt.{runs_rebuilt, run_fits, run_few, fourth_some}
use Rattle.octets.specs.Words.{word_at}
use Rattle.books.specs.Layout.{Head, offset, laid_out, opened}
use Rattle.books.specs.Loading.{fourth_calls, book_calls, records, with_modulus, loaded_over, loaded_with}
use Rattle.books.specs.RoundTrip.{WrittenLoads}
use Rattle.books.specs.Writing.{head_bytes, fourth_word, offset_words, records_bytes, entries, book_of}
use Rattle.books.proofs.Offsets.{offset_words_length, offsets_read}
use Rattle.books.proofs.Records.{Recorded, records_bytes_length, records_read}
use Rattle.books.proofs.WordLaws.{word_joined}

-- ---- the layout of what is written

-- a book by its modulus, fourth root and factors, and the words of its head
abbrev headed : ℕ → ℕ → List Factor → List ℕ
headed q i held = head_bytes q i (length held) ++ entries held

abbrev heading : ℕ → ℕ → List Factor → Head
heading q i held = record { modulus = q; fourth = i; count = length held }

module _ (q i : ℕ) (held : List Factor) (few : length held ≤ 8) where
  headed_length : length (headed q i held) ≡ 16 + 12 * length held
  headed_length =
      let n = length held in
      let both = length-append (offset_words n 0 n) (records_bytes held) in
      let front = offset_words_length n 0 n in
      let back = records_bytes_length held in
      omega arith

  headed_laid : laid_out (headed q i held) (length held) ≡ true
  headed_laid =
      let n = length held in
      and_from (leb n 8) _ (le-leb n 8 few)
      (and_from (eqb (length (headed q i held)) (16 + 12 * n)) _ (eq-eqb _ _ headed_length)
      (offsets_read (headed q i held) n 0 n (records_bytes held) few (omega arith) refl))

  headed_records : AllByRecursion Recorded held → records (headed q i held) (offset (length held) 0) (length held) ≡ held
  headed_records fits =
      let n = length held in
      let place : offset n 0 ≡ 16 + 4 * n = omega arith in
      let stands : drop (offset n 0) (headed q i held) ≡ records_bytes held =
      ap (λ at. drop at (headed q i held)) place ∙ sym (drop-drop (4 * n) 16 (headed q i held))
      ∙ drop_at (offset_words n 0 n) (records_bytes held) (4 * n) (offset_words_length n 0 n) in
      records_read (headed q i held) (offset n 0) held fits stands

  -- the checks on the layout pass, and give the words of the head
  headed_opens : q < 2 ^ 32 → i < 2 ^ 32 → opened (headed q i held) ≡ Ok (heading q i held)
  headed_opens q-small i-small =
      let n = length held in
      let read-q : word_at (headed q i held) 4 ≡ q = word_joined q q-small in
      let read-i : word_at (headed q i held) 8 ≡ i = word_joined i i-small in
      let read-n : word_at (headed q i held) 12 ≡ n = word_joined n (omega arith) in
      through (ltb (length (headed q i held)) 16 || not (eqb (word_at (headed q i held) 0) 1)) Format _
      (or_from (ltb (length (headed q i held)) 16) _ (le-ltb _ 16 (omega (arith, headed_length))) refl)
      ∙ through (not (laid_out (headed q i held) (word_at (headed q i held) 12))) Layout _
      (not_from_true _ (ap (laid_out (headed q i held)) read-n ∙ headed_laid))
      ∙ cc

-- ---- the plan of a run

-- a fourth root above 0 is given, and no other
fourth_given : (o : Option ℕ) → ((i : ℕ) → o ≡ Some i → 0 < i) → fourth_calls (fourth_word o) ≡ giving_fourth o
fourth_given None above = refl
fourth_given (Some zero) above = absurd (omega (arith, above 0 refl))
fourth_given (Some (suc i)) above = refl

fourth_small : (q : ℕ) (o : Option ℕ) → 0 < q → ((i : ℕ) → o ≡ Some i → i < q) → fourth_word o < q
fourth_small q None some below = some
fourth_small q (Some i) some below = below i refl

-- what a run holds fits the bytes of a record
all_recorded : (q : ℕ) (held : List Factor) → q ≤ 2147483647 → AllByRecursion (λ (h : Factor). (h.r ≤ 4095) × (h.f < 2 ^ 16) × (h.zeta < q)) held → AllByRecursion Recorded held
all_recorded q [] high fits = tt
all_recorded q (h ∷ held) high fits =
    let first = fits.0 in
    ((omega arith, first.1, omega arith), all_recorded q held high fits.1)

-- The calls of the book are those that make the plan anew.
pub written_loads : WrittenLoads
written_loads q low high serves calls =
    ap (loaded_with (book_of q s)) (headed_opens q (fourth_word s.fourth) s.factors few (omega arith) (omega (arith, fourth_below)))
    ∙ ap (loaded_over q) same
    ∙ through (ltb q 2 || ltb 2147483647 q) Modulus _ (or_from (ltb q 2) (ltb 2147483647 q) (le-ltb q 2 low) (le-ltb 2147483647 q high))
    ∙ through (not (served q)) Size _ (not_from_true (served q) serves)
    ∙ ap (with_modulus q) (runs_rebuilt (residues q) laws calls)
  where
    s : State
    s = run (residues q) calls

    laws : Laws (residues q)
    laws = residues_laws_31 q low high

    few : length s.factors ≤ 8
    few = run_few (residues q) laws calls

    fourth_below : fourth_word s.fourth < q
    fourth_below = fourth_small q s.fourth (omega arith) (λ i e. (fourth_some (residues q) laws calls i e).1)

    same : book_calls (book_of q s) (heading q (fourth_word s.fourth) s.factors) ≡ held_calls s
    same =
        ap (λ (held : List Factor). adopting held ++ fourth_calls (fourth_word s.fourth))
        (headed_records q (fourth_word s.fourth) s.factors few (all_recorded q s.factors high (run_fits (residues q) laws calls)))
        ∙ ap (λ (cs : List Call). adopting s.factors ++ cs) (fourth_given s.fourth (λ i e. (fourth_some (residues q) laws calls i e).0))

-- Writing a book over the front of an output that has room for it.
use Rattle.std.proofs.Common.{◌≡◌, ℕ, ◌+◌, ◌*◌, ◌≤◌, min, true, not, ltb, List, ◌++◌, length, take, drop, Ok, Result, sym, ap, ◌∙◌, subst, arith}
use Rattle.std.proofs.lemmas.List.{take_at}
use Rattle.std.proofs.lemmas.Bool.{not_from_true, le-ltb}
use Rattle.theory.specs.Residues.{residues}
use Rattle.refusals.specs.declared.Refusal.{Refusal}
use Rattle.refusals.specs.declared.Refusal.TheVariants.{Size, Room}
use Rattle.roots.specs.declared.call.Call.{Call}
use Rattle.roots.specs.Runs.{run}
use Rattle.roots.specs.State.{State, served}
use Rattle.roots.proofs.Passes.{through}
use Rattle.octets.specs.Buffers.{laid_over}
use Rattle.octets.proofs.Joined.{laid_whole}
use Rattle.books.specs.Loading.{loaded}
use Rattle.books.specs.Output.{Written, left_by, length_by}
use Rattle.books.specs.Writing.{book_of, writing}
use Rattle.books.proofs.WriteLoops.{book_length}
use Rattle.books.proofs.WrittenLoads.{written_loads}

-- an output with room for the book takes all of it
pub wrote_all : (q : ℕ) (s : State) (out buffer : List ℕ) → 16 + 12 * length s.factors ≤ length out → buffer ≡ book_of q s → min (length buffer) (length out) ≡ length buffer
wrote_all q s out buffer room is = let same = ap length is in omega (arith, book_length q s)

module _ (q : ℕ) (s : State) (out buffer : List ℕ) (serves : served q ≡ true) (room : 16 + 12 * length s.factors ≤ length out) (is : buffer ≡ book_of q s) where
  writes : writing q s (length out) ≡ Ok (book_of q s)
  writes =
      through (not (served q)) Size _ (not_from_true (served q) serves)
      ∙ through (ltb (length out) (16 + 12 * length s.factors)) Room _ (le-ltb (length out) (16 + 12 * length s.factors) room)

  pub write_value : Ok (length buffer) ≡ length_by (writing q s (length out))
  write_value = ap (λ (b : List ℕ). Ok (length b)) is ∙ sym (ap length_by writes)

  whole : laid_over buffer out ≡ book_of q s ++ drop (length (book_of q s)) out
  whole = ap (λ (b : List ℕ). laid_over b out) is ∙ laid_whole (book_of q s) out (omega (arith, book_length q s))

  pub write_after : laid_over buffer out ≡ left_by (writing q s (length out)) out
  write_after = whole ∙ sym (ap (λ (w : Written). left_by w out) writes)

  pub write_loads : 2 ≤ q → q ≤ 2147483647 → (calls : List Call) → s ≡ run (residues q) calls → (n : ℕ) → ◌≡◌ {A = Result ℕ Refusal} (Ok (length buffer)) (Ok n) → loaded (take n (laid_over buffer out)) ≡ Ok (q, s)
  write_loads low high calls made n e =
      let same : length buffer ≡ n = cc in
      ap (λ (b : List ℕ). loaded (take n b)) whole
      ∙ ap loaded (take_at (book_of q s) (drop (length (book_of q s)) out) n (ap length (sym is) ∙ same))
      ∙ subst (λ (t : State). loaded (book_of q t) ≡ Ok (q, t)) (sym made) (written_loads q low high serves calls)

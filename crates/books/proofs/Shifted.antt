-- A record read from the slice that begins at its offset is the record at that place of the book.
use Rattle.std.proofs.Common.{◌≡◌, ℕ, ◌+◌, ◌-◌, ◌≤◌, Bool, cond, ltb, List, length, take, drop, Some, None, sym, ap, ◌∙◌, ap₂, ⊎_elim, add-zero, add_assoc, arith}
use Rattle.std.proofs.lemmas.List.{get_or-drop, length-drop, take_rest}
use Rattle.std.proofs.lemmas.Bool.{cases_lt, lt-ltb, le-ltb}
use Rattle.roots.specs.declared.factor.Factor.{Factor}
use Rattle.books.specs.Parts.{record_at, record_in, record_read}

record_shift : (bytes : List ℕ) (at : ℕ) → record_at (drop at bytes) 0 ≡ record_at bytes at
record_shift bytes at = simp (get_or-drop, add-zero, add_assoc)

room_shift : (n at k : ℕ) → at ≤ n → ltb (n - at) k ≡ ltb n (at + k)
room_shift n at k h =
    ⊎_elim (λ l. lt-ltb (n - at) k (omega arith) ∙ sym (lt-ltb n (at + k) l)) (λ l. le-ltb (n - at) k (omega arith) ∙ sym (le-ltb n (at + k) l))
    (cases_lt n (at + k))

pub read_shift : (bytes : List ℕ) (at : ℕ) → at ≤ length bytes → record_in (take (length bytes - at) (drop at bytes)) ≡ record_read bytes at
read_shift bytes at h =
    ap record_in (take_rest bytes at)
    ∙ ap₂ (λ (b : Bool) (x : Factor). cond b None (Some x)) (ap (λ n. ltb n 8) (length-drop at bytes) ∙ room_shift (length bytes) at 8 h) (record_shift bytes at)

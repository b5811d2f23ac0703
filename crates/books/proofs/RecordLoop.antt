-- Adopting the records of a book, turn by turn.
use Rattle.std.proofs.Common.{◌≡◌, ℕ, ◌+◌, ◌-◌, ◌<◌, ◌≤◌, Bool, true, false, cond, ltb, List, ◌∷◌, length, Some, None, Ok, Err, Result, sym, ap, ◌∙◌, subst, arith}
use Rattle.theory.specs.Residues.{residues}
use Rattle.refusals.specs.declared.Refusal.{Refusal}
use Rattle.roots.specs.declared.call.Call.TheVariants.{Adopt}
use Rattle.roots.specs.declared.factor.Factor.{Factor}
use Rattle.roots.specs.Drafts.{answer, next, adopted}
use Rattle.roots.specs.Laws.{adopting}
use Rattle.roots.specs.Runs.{tried}
use Rattle.roots.specs.State.{State}
use Rattle.roots.proofs.Rebuilt.{tried_none}
use Rattle.books.specs.Layout.{offset}
use Rattle.books.specs.Loading.{records}
use Rattle.books.specs.Parts.{record_at, record_read}
use Rattle.books.proofs.Turns.{goes_on, stops, records_turn, records_over}

-- a record that is there is the record at its place
pub record_found : (book : List ℕ) (at : ℕ) (h : Factor) → Some h ≡ record_read book at → h ≡ record_at book at
record_found book at h e = from (ltb (length book) (at + 8)) e
  where
    from : (b : Bool) → Some h ≡ cond b None (Some (record_at book at)) → h ≡ record_at book at
    from false is = cc
    from true is = let z : ◌≡◌ {A = ℕ} 0 1 = cc in absurd (omega arith)

module _ (book : List ℕ) (n q : ℕ) where
  -- what adopting the records from the k-th on comes to
  abbrev pub Left : ℕ → State → Result State Refusal
  Left k s = tried (residues q) s (adopting (records book (offset n k) (n - k)))

  abbrev pub Whole : State → Result State Refusal
  Whole s = tried (residues q) s (adopting (records book (offset n 0) n))

  pub adopts_all : (k : ℕ) (s : State) → n ≤ k → Left k s ≡ Ok s
  adopts_all k s over =
      ap (λ (hs : List Factor). tried (residues q) s (adopting hs)) (records_over book n k over) ∙ tried_none (residues q) s

  module _ (k : ℕ) (s : State) (h : Factor) (at : ℕ) (within : k < n) (same : at ≡ q) (found : Some h ≡ record_read book (offset n k)) where
    -- the record in hand comes first
    first : Left k s ≡ tried (residues q) s (adopting (h ∷ records book (offset n (k + 1)) (n - (k + 1))))
    first =
        ap (λ (hs : List Factor). tried (residues q) s (adopting hs)) (records_turn book n k within)
        ∙ ap (λ (x : Factor). tried (residues q) s (adopting (x ∷ records book (offset n (k + 1)) (n - (k + 1))))) (sym (record_found book (offset n k) h found))

    pub adopts_on : (t : State) (z : ℕ) → Ok z ≡ answer (adopted (residues at) s h.r h.f h.zeta) → t ≡ next s (adopted (residues at) s h.r h.f h.zeta) → Left k s ≡ Left (k + 1) t
    adopts_on t z a b =
        first
        ∙ goes_on (residues q) s (Adopt h.r h.f h.zeta) (adopting (records book (offset n (k + 1)) (n - (k + 1)))) t z
        (subst (λ p. Ok z ≡ answer (adopted (residues p) s h.r h.f h.zeta)) same a)
        (subst (λ p. t ≡ next s (adopted (residues p) s h.r h.f h.zeta)) same b)

    pub adopts_not : (why : Refusal) → Err why ≡ answer (adopted (residues at) s h.r h.f h.zeta) → Left k s ≡ Err why
    adopts_not why a =
        first
        ∙ stops (residues q) s (Adopt h.r h.f h.zeta) (adopting (records book (offset n (k + 1)) (n - (k + 1)))) why
        (subst (λ p. Err why ≡ answer (adopted (residues p) s h.r h.f h.zeta)) same a)

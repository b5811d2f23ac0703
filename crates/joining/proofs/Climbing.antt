-- A ladder on its way up.
use Rattle.std.proofs.Common.{◌≡◌, ℕ, suc, ◌+◌, ◌-◌, ◌*◌, ◌<◌, ◌≤◌, Bool, true, false, cond, leb, Some, None, Ok, Err, Option, sym, refl, ap, ◌∙◌, ap₂, suc-mul, mul-le-mul_left, zero-mul, add-one, arith}
use native.Mathlib.Nat.{sub-zero}
use lib.Dec.{leb-suc-suc}
use Rattle.std.proofs.lemmas.Bool.{le-leb}
use Rattle.theory.specs.First.{first}
use Rattle.theory.specs.Numbers.{joinings}
use Rattle.theory.specs.Operation.{Operation, OperationLaws, pow, rung, rank, before}
use Rattle.theory.proofs.Powers.{rung_0, rung_suc, rung_reduced}
use Rattle.theory.proofs.Bits.{joinings_few}
use Rattle.theory.proofs.Search.{turn_here, turn_later, turn_none, first_same}
use Rattle.joining.specs.declared.Back.{Back}
use Rattle.joining.specs.declared.JoiningFault.TheVariants.{NoRank}
use Rattle.joining.specs.Ladder.{places, laddered, laddered_at}

-- Rung k of the ladder from x is in hand, with the two below it; what is left to search comes to the rank.
pub record Climbing {E : Type 0} (o : Operation E) (x : E) (by length k : ℕ) (here : E) (one two : Option E) (count : ℕ) : Type 0 where
  pub within : k ≤ length
  pub hand : here ≡ rung o x by k
  pub one_back : one ≡ before o x by 1 k
  pub two_back : two ≡ before o x by 2 k
  pub joined : count ≡ k * joinings by
  pub searched : rank o x by length ≡ first (λ i. o.spent (rung o x by i)) k (suc length - k)

module _ {E : Type 0} (o : Operation E) where
  -- one rung higher, what was one back is two back
  before_more : (x : E) (by k : ℕ) → before o x by 2 (k + 1) ≡ before o x by 1 k
  before_more x by k =
      let test : leb 2 (k + 1) ≡ leb 1 k = ap (leb 2) (add-one k) ∙ leb-suc-suc 1 k in
      let place : (k + 1) - 2 ≡ k - 1 = omega arith in
      ap₂ (λ b i. cond b (Some (rung o x by i)) None) test place

  before_next : (x : E) (by k : ℕ) → before o x by 1 (k + 1) ≡ Some (rung o x by k)
  before_next x by k =
      let test : leb 1 (k + 1) ≡ true = le-leb 1 (k + 1) (omega arith) in
      let place : (k + 1) - 1 ≡ k = omega arith in
      ap₂ (λ b i. cond b (Some (rung o x by i)) None) test place

  -- the ladder may begin at what x counts as
  pub laddered_reduced : OperationLaws o → (x y : E) (by length : ℕ) (back : Back) (code : ℕ) → y ≡ o.join o.neutral x
      → laddered o y by length back code ≡ laddered o x by length back code
  laddered_reduced laws x y by length back code e =
      let same : (k : ℕ) → rung o y by k ≡ rung o x by k = λ k. ap (λ z. rung o z by k) e ∙ rung_reduced o laws x by k in
      ap (laddered_at o y by back code)
      (first_same (λ k. o.spent (rung o y by k)) (λ k. o.spent (rung o x by k)) 0 (suc length) (λ k _ _. ap o.spent (same k)))
      ∙ at_each same (rank o x by length)
    where
      at_each : ((k : ℕ) → rung o y by k ≡ rung o x by k) → (found : Option ℕ) → laddered_at o y by back code found ≡ laddered_at o x by back code found
      at_each same None = refl
      at_each same (Some k) =
          ap (λ z. Ok (cond (leb (places back) k) (Some z) None, k * joinings by)) (same (k - places back))

  pub begins : OperationLaws o → (x y : E) (by length : ℕ) → y ≡ o.join o.neutral x → Climbing o y by length 0 y None None 0
  begins laws x y by length e = record {
    within = omega arith;
    hand = e ∙ sym (rung_0 o y by ∙ ap (o.join o.neutral) e ∙ laws.neutral_join o.neutral x);
    one_back = refl;
    two_back = refl;
    joined = sym (zero-mul (joinings by));
    searched = sym (ap (first (λ i. o.spent (rung o y by i)) 0) (sub-zero (suc length)));
  }

module _ {E : Type 0} (o : Operation E) (x : E) (by length k : ℕ) (here : E) (one two : Option E) (count : ℕ) (c : Climbing o x by length k here one two count) where
  pub few_so_far : count ≤ 126 * length
  few_so_far = omega (arith, c.joined, c.within, mul-le-mul_left k (joinings_few by))

  pub rises : (next : E) (more : ℕ) → k < length → o.spent here ≡ false → next ≡ pow o here by → more ≡ joinings by
      → Climbing o x by length (k + 1) next (Some here) one (count + more)
  rises next more below unspent raised counted = record {
    within = omega arith;
    hand = raised ∙ ap (λ y. pow o y by) c.hand ∙ sym (rung_suc o x by k) ∙ sym (ap (rung o x by) (add-one k));
    one_back = ap Some c.hand ∙ sym (before_next o x by k);
    two_back = c.one_back ∙ sym (before_more o x by k);
    joined = ap₂ (λ i j. i + j) c.joined counted ∙ sym (ap (λ i. i * joinings by) (add-one k) ∙ suc-mul k (joinings by));
    searched =
        c.searched
        ∙ turn_later (λ i. o.spent (rung o x by i)) k (suc length) (omega arith) (sym (ap o.spent c.hand) ∙ unspent);
  }

  -- the rung in hand is spent: its number is the rank
  pub ranked : o.spent here ≡ true → rank o x by length ≡ Some k
  ranked spent =
      c.searched
      ∙ turn_here (λ i. o.spent (rung o x by i)) k (suc length) (omega (arith, c.within)) (sym (ap o.spent c.hand) ∙ spent)

  -- the last rung is not spent: there is no rank
  pub unranked : length ≤ k → o.spent here ≡ false → rank o x by length ≡ None
  unranked last unspent =
      let p : ℕ → Bool = λ i. o.spent (rung o x by i) in
      c.searched ∙ turn_later p k (suc length) (omega (arith, c.within)) (sym (ap o.spent c.hand) ∙ unspent)
      ∙ turn_none p (k + 1) (suc length) (omega arith)

  -- What the ladder answers. It begins at what an element e counts as, and is answered as the ladder from e.
  module _ (laws : OperationLaws o) (e : E) (reduced : x ≡ o.join o.neutral e) (back : Back) (code : ℕ) where
    pub answer_rung : (rung : Option E) → rung ≡ before o x by (places back) k → o.spent here ≡ true → Ok (rung, count) ≡ laddered o e by length back code
    answer_rung rung is spent =
        ap₂ (λ r n. Ok (r, n)) is c.joined ∙ sym (ap (laddered_at o x by back code) (ranked spent))
        ∙ laddered_reduced o laws e x by length back code reduced

    pub answer_none : length ≤ k → o.spent here ≡ false → Err (NoRank by code) ≡ laddered o e by length back code
    answer_none last unspent =
        sym (ap (laddered_at o x by back code) (unranked last unspent))
        ∙ laddered_reduced o laws e x by length back code reduced

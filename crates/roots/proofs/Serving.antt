-- Steps 4 and 5 of rooting together: the factors are tried in turn, one of them serves, and there the search for a root ends.
use Rattle.std.proofs.Common.{◌≡◌, ℕ, suc, ◌+◌, ◌-◌, ◌*◌, ◌/◌, ◌%◌, ◌^◌, ◌<◌, Bool, List, [], ◌∷◌, Some, None, Ok, sym, ap, ◌∙◌, subst, inl, inr, mul_assoc, pow-suc, arith}
use Rattle.theory.specs.First.{first}
use Rattle.theory.specs.Meaning.{Meaning, Laws, Lawful}
use Rattle.theory.specs.Operation.{Operation, pow, ratio, ratios}
use Rattle.theory.specs.Power.{power}
use Rattle.theory.specs.declared.Ratio.{Ratio}
use Rattle.theory.proofs.Images.{Image}
use Rattle.theory.proofs.JoiningLaws.{ratios_laws}
use Rattle.theory.proofs.Lists.{All}
use Rattle.roots.specs.declared.factor.Factor.{Factor}
use Rattle.roots.specs.Rooting.{Steps, turned, matches, searched}
use Rattle.roots.proofs.Climbs.{OneBefore, climb_one, stage_0}
use Rattle.roots.proofs.Held.{Holds}
use Rattle.roots.proofs.Searching.{factor_climb, searched_over, searched_matched}
use Rattle.roots.proofs.StepFive.{fifth}
use Rattle.roots.proofs.StepFour.{Idle}
use Rattle.roots.proofs.StepSix.{Stands}
use Rattle.roots.proofs.StepThree.{last_spent}

-- The search comes to a ratio that stands for a root.
pub record Finds (m : Meaning) (mark : ℕ) (steps : Steps (Ratio × ℕ)) : Type 0 where
  pub found : Ratio
  pub tests : ℕ
  pub stands : Stands m mark found
  pub is : steps.outcome ≡ Ok (found, tests)

module _ (m : Meaning) (laws : Laws m) (lawful : Lawful m) (uneven : m.size % 2 ≡ 1)
    (α mark g : ℕ) (square : m.product α α ≡ mark) (small : mark < m.size) (image : Image m α mark g) where
  abbrev o : Operation Ratio
  o = ratios m mark

  -- A factor's turn: it is idle and passed over, or it serves and the search ends with what stands for a root.
  data Turn (x : Factor) : Type 0 where
    over : (made : ℕ) → Idle m image.h x → factor_climb m mark g x ≡ Ok (None, made) → Turn x
    ends_at : (e : Ratio) (made j : ℕ) → factor_climb m mark g x ≡ Ok (Some e, made)
        → first (matches m mark e x.zeta) 1 (x.r / 2) ≡ Some j → Stands m mark (turned m e (power m x.zeta j)) → Turn x

  turn : (x : Factor) → Holds m x → Turn x
  turn x holds =
      from
      (climb_one o (ratios_laws m laws mark) g k x.r x.f
      (last_spent m laws lawful uneven α mark g image (k * x.r ^ x.f) holds.exact))
    where
      k : ℕ
      k = (m.size - 1) / x.r ^ x.f

      from : OneBefore o (ratios_laws m laws mark) g k x.r x.f → Turn x
      from (inl (made, spent, is)) =
          over made ((image.spent_exactly k).0 (sym (ap o.spent (stage_0 o (ratios_laws m laws mark) g k x.r x.f)) ∙ spent)) is
      from (inr (i, made, less, unspent, spent, is)) =
          let again : k * x.r ^ i * x.r ≡ k * x.r ^ suc i = mul_assoc k (x.r ^ i) x.r ∙ ap (◌*◌ k) (sym (pow-suc x.r i)) in
          let found = fifth m laws lawful uneven α mark g square small image x.zeta x.r (k * x.r ^ i)
          holds.order holds.below (holds.uneven (omega arith)) unspent
          (ap (power m image.h) again ∙ (image.spent_exactly (k * x.r ^ suc i)).0 spent) in
          ends_at (pow o (ratio g 1) (k * x.r ^ i)) made found.0 is found.1 found.2

  -- Where not all factors are idle, the search through them ends with what stands for a root.
  pub search_finds : (held : List Factor) → All (Holds m) held → (All (Idle m image.h) held → ⊥) → (serves : Bool) (n tests : ℕ)
      → Finds m mark (searched m mark g held serves n tests)
  search_finds [] holds busy serves n tests = absurd (busy tt)
  search_finds (x ∷ held) holds busy serves n tests =
      from (turn x holds.0) (λ idle made. search_finds held holds.1 (λ rest. busy (idle, rest)) serves (n + made) tests)
    where
      from : Turn x → (Idle m image.h x → (made : ℕ) → Finds m mark (searched m mark g held serves (n + made) tests))
          → Finds m mark (searched m mark g (x ∷ held) serves n tests)
      from (over made idle is) later = subst (Finds m mark) (sym (searched_over m mark g x held serves n tests made is)) (later idle made)
      from (ends_at e made j is matched stands) later =
          record {
            found = turned m e (power m x.zeta j);
            tests = tests + j;
            stands = stands;
            is = ap (λ (steps : Steps (Ratio × ℕ)). steps.outcome) (searched_matched m mark g x held serves n tests e made j is matched);
          }

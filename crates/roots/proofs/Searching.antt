-- One turn of the search through the factors, for each way that it can go.
use Rattle.std.proofs.Common.{◌≡◌, ℕ, ◌+◌, ◌-◌, ◌/◌, ◌^◌, Bool, true, cond, List, [], ◌∷◌, Some, None, Ok, Err, Option, Result, refl}
use Rattle.theory.specs.First.{first}
use Rattle.theory.specs.Meaning.{Meaning}
use Rattle.theory.specs.Operation.{ratios}
use Rattle.theory.specs.Power.{power}
use Rattle.theory.specs.declared.Ratio.{Ratio}
use Rattle.joining.specs.Ladder.{climbed, climb_joinings}
use Rattle.joining.specs.declared.Back.TheVariants.{One}
use Rattle.joining.specs.declared.JoiningFault.{JoiningFault}
use Rattle.refusals.specs.declared.Layer.TheVariants.{Search}
use Rattle.refusals.specs.declared.Refusal.TheVariants.{Unlawful}
use Rattle.roots.specs.declared.factor.Factor.{Factor}
use Rattle.roots.specs.Rooting.{ended, refused_by, matches, turned, searched}

-- A factor's ladder: from the power (size − 1) / r^f of g, by r, of length f.
abbrev pub factor_climb : Meaning → ℕ → ℕ → Factor → Result (Option Ratio × ℕ) JoiningFault
factor_climb m mark g h = climbed (ratios m mark) g ((m.size - 1) / h.r ^ h.f) h.r h.f One

abbrev pub factor_joinings : Meaning → ℕ → ℕ → Factor → ℕ
factor_joinings m mark g h = climb_joinings (ratios m mark) g ((m.size - 1) / h.r ^ h.f) h.r h.f

module _ (m : Meaning) (mark g : ℕ) where
  -- no factor is left
  pub searched_end : (serves : Bool) (n tests : ℕ) → searched m mark g [] serves n tests ≡ ended (Err (Unlawful Search (cond serves 5 4) g)) n
  unfolding searched
  searched_end serves n tests = refl

  module _ (h : Factor) (held : List Factor) (serves : Bool) (n tests : ℕ) where
    -- the ladder has no rank
    pub searched_fault : (fault : JoiningFault) → factor_climb m mark g h ≡ Err fault
        → searched m mark g (h ∷ held) serves n tests ≡ ended (Err (refused_by fault)) (n + factor_joinings m mark g h)
    unfolding searched
    searched_fault fault e = rw (e, searched)

    -- the factor does not serve
    pub searched_over : (made : ℕ) → factor_climb m mark g h ≡ Ok (None, made)
        → searched m mark g (h ∷ held) serves n tests ≡ searched m mark g held serves (n + made) tests
    unfolding searched
    searched_over made e = rw (e, searched)

    -- the factor serves, and no j matches
    pub searched_missed : (e : Ratio) (made : ℕ) → factor_climb m mark g h ≡ Ok (Some e, made)
        → first (matches m mark e h.zeta) 1 (h.r / 2) ≡ None
        → searched m mark g (h ∷ held) serves n tests ≡ searched m mark g held true (n + made) (tests + h.r / 2)
    unfolding searched
    searched_missed e made climb miss = rw (climb, miss, searched)

    -- the factor serves, and j is the first that matches
    pub searched_matched : (e : Ratio) (made j : ℕ) → factor_climb m mark g h ≡ Ok (Some e, made)
        → first (matches m mark e h.zeta) 1 (h.r / 2) ≡ Some j
        → searched m mark g (h ∷ held) serves n tests ≡ ended (Ok (turned m e (power m h.zeta j), tests + j)) (n + made)
    unfolding searched
    searched_matched e made j climb match = rw (climb, match, searched)

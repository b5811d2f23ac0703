-- Rooting a mark with what a plan holds, step by step. The joinings are a value of the steps in every case, refused marks too.
use Rattle.std.specs.Prelude.{ℕ, ◌+◌, ◌-◌, ◌*◌, ◌/◌, ◌^◌, Bool, true, false, cond, not, ◌||◌, List, [], ◌∷◌, Some, None, Ok, Err, Option, Result, ◌==◌, nat_le, nat_lt}
use Rattle.theory.specs.First.{first}
use Rattle.theory.specs.Meaning.{Meaning}
use Rattle.theory.specs.Numbers.{joinings}
use Rattle.theory.specs.Operation.{pow, ratio, ratios}
use Rattle.theory.specs.Power.{power}
use Rattle.theory.specs.declared.Ratio.{Ratio}
use Rattle.joining.specs.Ladder.{climbed, climb_joinings}
use Rattle.joining.specs.Quotient.{quotient_of}
use Rattle.joining.specs.declared.Back.TheVariants.{One, Two}
use Rattle.joining.specs.declared.JoiningFault.{JoiningFault}
pub use Rattle.refusals.specs.Fault.{refused_by}
use Rattle.refusals.specs.declared.Layer.TheVariants.{Search}
use Rattle.refusals.specs.declared.Refusal.{Refusal}
use Rattle.refusals.specs.declared.Refusal.TheVariants.{Size, NoFourth, Rest, Mark, Zero, NoSquare, Unlawful}
use Rattle.roots.specs.declared.factor.Factor.{Factor}
use Rattle.roots.specs.State.{State, served, twos, odd}

-- What some steps come to, with the joinings that they made.
pub record Steps (A : Type 0) : Type 0 where
  pub outcome : Result A Refusal
  pub made : ℕ

abbrev pub ended : {A : Type 0} → Result A Refusal → ℕ → Steps A
ended r n = record { outcome = r; made = n }

abbrev pub fails_if : {A : Type 0} → Bool → Refusal → ℕ → Steps A → Steps A
fails_if true why n otherwise = ended (Err why) n
fails_if false why n otherwise = otherwise

-- The two roots, smaller code first.
abbrev pub ordered : ℕ → ℕ → ℕ × ℕ
ordered a b = cond (nat_lt b a) (b, a) (a, b)

-- The two roots with the number of j tried.
abbrev pub Roots : Type 0
Roots = (ℕ × ℕ) × ℕ

-- Step 6: the value of the ratio found is a root, squared as a check.
abbrev pub rooted_check : Meaning → ℕ → ℕ → ℕ → Result ℕ JoiningFault → Result Roots Refusal
rooted_check m mark g tests (Err fault) = Err (refused_by fault)
rooted_check m mark g tests (Ok root) =
    cond (m.product root root == mark) (Ok (ordered root (m.negative root), tests)) (Err (Unlawful Search 6 g))

abbrev pub finished : Meaning → ℕ → ℕ → ℕ → Ratio → Result Roots Refusal
finished m mark g tests e = rooted_check m mark g tests (quotient_of m e.top e.bottom)

-- Step 5: the ratio x(z − 1) : y(z + 1) matches when its square is the mark.
abbrev pub turned : Meaning → Ratio → ℕ → Ratio
turned m e z = ratio (m.product e.top (m.sum z (m.negative 1))) (m.product e.bottom (m.sum z 1))

abbrev pub squares_to : Meaning → ℕ → Ratio → Bool
squares_to m mark e = m.product e.top e.top == m.product mark (m.product e.bottom e.bottom)

abbrev pub matches : Meaning → ℕ → Ratio → ℕ → ℕ → Bool
matches m mark e z j = squares_to m mark (turned m e (power m z j))

-- Steps 4 and 5: the factors in the order adopted, until a j matches; whether one has served so far, and the counts so far, are passed along.
unfoldable pub searched : Meaning → ℕ → ℕ → List Factor → Bool → ℕ → ℕ → Steps (Ratio × ℕ)
searched m mark g [] served n tests = ended (Err (Unlawful Search (cond served 5 4) g)) n
searched m mark g (h ∷ held) served n tests =
    elim (climbed (ratios m mark) g ((m.size - 1) / h.r ^ h.f) h.r h.f One) [
      | Err fault ↦ ended (Err (refused_by fault)) (n + climb_joinings (ratios m mark) g ((m.size - 1) / h.r ^ h.f) h.r h.f)
      | Ok found ↦
          elim found.0 [
            | None ↦ searched m mark g held served (n + found.1) tests
            | Some e ↦
                elim (first (matches m mark e h.zeta) 1 (h.r / 2)) [
                  | None ↦ searched m mark g held true (n + found.1) (tests + h.r / 2)
                  | Some j ↦ ended (Ok (turned m e (power m h.zeta j), tests + j)) (n + found.1)
                ]
          ]
    ]

abbrev pub from_search : Meaning → ℕ → ℕ → Steps (Ratio × ℕ) → Steps Roots
from_search m mark g steps =
    ended (elim steps.outcome [ Err why ↦ Err why | Ok found ↦ finished m mark g found.1 found.0 ]) steps.made

-- Step 3: the ladder by 2. Where its rank is 2 or more, x : y stands two before it, and the root is x × i / y.
abbrev pub climbed_two : Meaning → ℕ → List Factor → ℕ → ℕ → ℕ → Result (Option Ratio × ℕ) JoiningFault → Steps Roots
climbed_two m i factors mark g n (Err fault) =
    ended (Err (refused_by fault)) (n + climb_joinings (ratios m mark) g (odd m.size) 2 (twos m.size))
climbed_two m i factors mark g n (Ok found) =
    elim found.0 [
      | Some e ↦ ended (finished m mark g 0 (ratio (m.product e.top i) e.bottom)) (n + found.1)
      | None ↦ from_search m mark g (searched m mark g factors false (n + found.1) 0)
    ]

abbrev pub kept : Meaning → ℕ → List Factor → ℕ → ℕ → ℕ → Steps Roots
kept m i factors mark g n =
    climbed_two m i factors mark g n (climbed (ratios m mark) g (odd m.size) 2 (twos m.size) Two)

-- Step 2: g ends the search where its square is the mark, or where [g]^(2t) is not spent.
abbrev pub squares : Meaning → ℕ → ℕ → Bool
squares m mark g = m.product g g == mark

abbrev pub ends : Meaning → ℕ → ℕ → ℕ → Bool
ends m t mark g = squares m mark g || not ((ratios m mark).spent (pow (ratios m mark) (ratio g 1) (2 * t)))

abbrev pub begun : Meaning → ℕ → State → ℕ → ℕ → Option ℕ → Steps Roots
begun m i s mark n None = ended (Err (Unlawful Search 2 0)) (n + (2 * s.rest - 1) * joinings (2 * s.rest))
begun m i s mark n (Some g) =
    cond (squares m mark g) (ended (Ok (ordered (g) (m.negative g), 0)) (n + (g - 1) * joinings (2 * s.rest)))
    (kept m i s.factors mark g (n + g * joinings (2 * s.rest)))

-- Step 1: a square has the power (size − 1) / 2 equal to 1.
abbrev pub half : Meaning → ℕ
half m = (m.size - 1) / 2

abbrev pub tested : Meaning → ℕ → State → ℕ → Steps Roots
tested m i s mark =
    fails_if (not (power m mark (half m) == 1)) NoSquare (joinings (half m))
    (begun m i s mark (joinings (half m)) (first (ends m s.rest mark) 1 (2 * s.rest - 1)))

-- The checks before the steps, in their order.
abbrev pub with_fourth : Meaning → State → ℕ → Option ℕ → Steps Roots
with_fourth m s mark None = ended (Err NoFourth) 0
with_fourth m s mark (Some i) =
    fails_if (nat_lt 1024 s.rest) Rest 0
    (fails_if (nat_le m.size mark) Mark 0 (fails_if (mark == 0) Zero 0 (tested m i s mark)))

abbrev pub rooted : Meaning → State → ℕ → Steps Roots
rooted m s mark = fails_if (not (served m.size)) Size 0 (with_fourth m s mark s.fourth)

-- What rooting answers: the roots, smaller first, with the joinings and the tests.
abbrev pub Answer : Type 0
Answer = (ℕ × ℕ) × (ℕ × ℕ)

abbrev pub answered : Steps Roots → Result Answer Refusal
answered steps = elim steps.outcome [ Err why ↦ Err why | Ok found ↦ Ok (found.0, (steps.made, found.1)) ]

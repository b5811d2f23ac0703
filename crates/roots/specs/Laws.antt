-- The laws over whole runs, in the subject's own words: n, t and the fourth root are read off a list of calls and their answers.
use Rattle.std.specs.Prelude.{◌≡◌, ℕ, ◌+◌, ◌-◌, ◌*◌, ◌/◌, ◌%◌, ◌^◌, ◌<◌, ◌≤◌, true, ◌⊎◌, List, [], ◌∷◌, ◌++◌, length, Some, None, Ok, Err, Option, Result, ◌≢◌}
use Rattle.theory.specs.Meaning.{Meaning, Laws, Lawful}
use Rattle.theory.specs.Numbers.{Divides, Prime, Coprime, bits}
use Rattle.theory.specs.Power.{Order}
use Rattle.refusals.specs.declared.Refusal.{Refusal}
use Rattle.refusals.specs.declared.Refusal.TheVariants.{NoSquare, Unfound}
use Rattle.roots.specs.declared.call.Call.{Call}
use Rattle.roots.specs.declared.call.Call.TheVariants.{Adopt, Seek, Give, SeekFourth}
use Rattle.roots.specs.declared.factor.Factor.{Factor}
use Rattle.roots.specs.Drafts.{answer, sought, sought_fourth}
use Rattle.roots.specs.Rooting.{Answer, rooted, answered}
use Rattle.roots.specs.Runs.{step, run, tried}
use Rattle.roots.specs.State.{State, served, twos, odd, start}

-- ---- what a list of calls comes to

-- An accepted adoption or seeking of a factor takes r^f; the other calls take none.
abbrev pub taking : Call → List ℕ → List ℕ
taking (Adopt r f z) powers = r ^ f ∷ powers
taking (Seek r f) powers = r ^ f ∷ powers
taking (Give i) powers = powers
taking SeekFourth powers = powers

-- The powers that the accepted calls of a list take, in their order.
unfoldable pub taken_from : Meaning → State → List Call → List ℕ
taken_from m s [] = []
taken_from m s (c ∷ calls) = elim (step m s c) [ Err why ↦ taken_from m s calls | Ok done ↦ taking c (taken_from m done.1 calls) ]

abbrev pub taken : Meaning → List Call → List ℕ
taken m calls = taken_from m (start m.size) calls

unfoldable pub multiplied : List ℕ → ℕ
multiplied [] = 1
multiplied (x ∷ xs) = x * multiplied xs

-- The fourth root last accepted.
abbrev pub setting : Call → ℕ → Option ℕ → Option ℕ
setting (Adopt r f z) a i = i
setting (Seek r f) a i = i
setting (Give root) a i = Some a
setting SeekFourth a i = Some a

unfoldable pub fourth_from : Meaning → State → Option ℕ → List Call → Option ℕ
fourth_from m s i [] = i
fourth_from m s i (c ∷ calls) =
    elim (step m s c) [ Err why ↦ fourth_from m s i calls | Ok done ↦ fourth_from m done.1 (setting c done.0 i) calls ]

abbrev pub fourth_of : Meaning → List Call → Option ℕ
fourth_of m calls = fourth_from m (start m.size) None calls

-- n: how many adoptions and factor seekings were accepted. t: the odd part divided by their powers.
abbrev pub number_of : Meaning → List Call → ℕ
number_of m calls = length (taken m calls)

abbrev pub rest_of : Meaning → List Call → ℕ
rest_of m calls = odd m.size / multiplied (taken m calls)

-- ---- what a run keeps

-- Each two of the numbers share no divisor above 1.
unfoldable pub ApartFrom : ℕ → List Factor → Type 0
ApartFrom r [] = Unit {0}
ApartFrom r (h ∷ held) = Coprime r h.r × ApartFrom r held

unfoldable pub AllApart : List Factor → Type 0
AllApart [] = Unit {0}
AllApart (h ∷ held) = ApartFrom h.r held × AllApart held

-- Each ζ is a number of the field of order exactly r.
unfoldable pub AllOrders : Meaning → List Factor → Type 0
AllOrders m [] = Unit {0}
AllOrders m (h ∷ held) = ((h.zeta < m.size) × Order m h.zeta h.r) × AllOrders m held

-- The product of the held powers.
unfoldable pub held_power : List Factor → ℕ
held_power [] = 1
held_power (h ∷ held) = h.r ^ h.f * held_power held

-- At all times the powers of 2, the held powers and the rest make up the size less one, the held r are apart, the orders are exact,
-- the fourth root is a number whose square is the negative of 1, and what is held is what the accepted calls put there.
pub record Kept (m : Meaning) (calls : List Call) (s : State) : Type 0 where
  pub whole : 2 ^ twos m.size * (held_power s.factors * s.rest) ≡ m.size - 1
  pub apart : AllApart s.factors
  pub orders : AllOrders m s.factors
  pub squares : (i : ℕ) → s.fourth ≡ Some i → (i < m.size) × (m.product i i ≡ m.negative 1)
  pub number : length s.factors ≡ number_of m calls
  pub rest : s.rest ≡ rest_of m calls
  pub fourth : s.fourth ≡ fourth_of m calls

-- Every list of calls keeps this, over every ring.
abbrev pub RunsKeep : Type 0
RunsKeep = (m : Meaning) → Laws m → (calls : List Call) → Kept m calls (run m calls)

-- The calls that put into a new draft what a state holds: its factors are adopted in their order, and then its fourth root is given.
abbrev pub adopting : List Factor → List Call
adopting [] = []
adopting (h ∷ held) = Adopt h.r h.f h.zeta ∷ adopting held

abbrev pub giving_fourth : Option ℕ → List Call
giving_fourth None = []
giving_fourth (Some i) = Give i ∷ []

abbrev pub held_calls : State → List Call
held_calls s = adopting s.factors ++ giving_fourth s.fourth

-- What any list of calls leaves can be made anew from what is held; none of these calls is refused.
abbrev pub RunsRebuilt : Type 0
RunsRebuilt =
    (m : Meaning) → Laws m → (calls : List Call) → tried m (start m.size) (held_calls (run m calls)) ≡ Ok (run m calls)

-- ---- rooting

-- The most tests that the held factors can ask for: (r − 1)/2 for each, r being odd.
abbrev pub most_tests : List Factor → ℕ
most_tests [] = 0
most_tests (h ∷ held) = h.r / 2 + most_tests held

-- no number of the field squares to the mark
abbrev pub NoRoot : Meaning → ℕ → Type 0
NoRoot m mark = (x : ℕ) → m.product x x ≢ mark

-- a and b square to the mark, smaller code first, and no third number does
pub record TwoRoots (m : Meaning) (mark a b : ℕ) : Type 0 where
  pub below : a < b
  pub within : b < m.size
  pub smaller : m.product a a ≡ mark
  pub larger : m.product b b ≡ mark
  pub only : (x : ℕ) → x < m.size → m.product x x ≡ mark → (x ≡ a) ⊎ (x ≡ b)

-- Refused as no square exactly where there is no root; else the two roots.
abbrev pub Exact : Meaning → ℕ → Result Answer Refusal → Type 0
Exact m mark r =
    (NoRoot m mark × (r ≡ Err NoSquare)) ⊎ ((a b : ℕ) × (counts : ℕ × ℕ) × TwoRoots m mark a b × (r ≡ Ok ((a, b), counts)))

-- Over every lawful field of a served size, after every list of calls that leaves a fourth root and a rest up to 1,024, every mark below the size but 0.
abbrev pub RootExact : Type 0
RootExact =
    (m : Meaning) → Laws m → Lawful m → served m.size ≡ true → (calls : List Call) (i : ℕ) → fourth_of m calls ≡ Some i → rest_of m calls ≤ 1024 → (mark : ℕ) → 0 < mark → mark < m.size → Exact m mark (answered (rooted m (run m calls) mark))

-- The most joinings that rooting makes: 2(L − 1)(n + 2) + 2(2t − 1) × (bits of t), L the bits of the size less one.
abbrev pub ceiling : Meaning → List Call → ℕ
ceiling m calls =
    2 * (bits (m.size - 1) - 1) * (number_of m calls + 2) + 2 * (2 * rest_of m calls - 1) * bits (rest_of m calls)

-- Over every ring, after every list of calls, for every mark, refused ones too.
abbrev pub RootCost : Type 0
RootCost = (m : Meaning) → Laws m → (calls : List Call) (mark : ℕ) → (rooted m (run m calls) mark).made ≤ ceiling m calls

-- Over every ring, whatever the plan holds: an accepted root squares to the mark.
abbrev pub RootSquares : Type 0
RootSquares =
    (m : Meaning) → Laws m → (s : State) (mark a b : ℕ) (counts : ℕ × ℕ) → answered (rooted m s mark) ≡ Ok ((a, b), counts) → (m.product a a ≡ mark) × (m.product b b ≡ mark)

-- Over every ring, after every list of calls: an accepted root is a number of the ring, and so is the other one.
abbrev pub RootWithin : Type 0
RootWithin =
    (m : Meaning) → Laws m → (calls : List Call) (mark a b : ℕ) (counts : ℕ × ℕ) → answered (rooted m (run m calls) mark) ≡ Ok ((a, b), counts) → (a < m.size) × (b < m.size)

-- Over every ring, whatever the plan holds: no more tests than (r − 1)/2 for each held factor.
abbrev pub RootTests : Type 0
RootTests =
    (m : Meaning) → Laws m → (s : State) (mark a b made tests : ℕ) → answered (rooted m s mark) ≡ Ok ((a, b), (made, tests)) → tests ≤ most_tests s.factors

-- ---- seeking

-- Over every lawful field, after every list of calls: with size − 1 = r^F × u, r an odd prime that does not go into u, seeking r is never refused
-- as unfound while u is at most 4,094.
abbrev pub SeekFound : Type 0
SeekFound =
    (m : Meaning) → Laws m → Lawful m → (calls : List Call) (r f : ℕ) → Prime r → r % 2 ≡ 1 → (F u : ℕ) → m.size - 1 ≡ r ^ F * u → (Divides r u → ⊥) → u ≤ 4094 → answer (sought m (run m calls) r f) ≢ Err Unfound

-- Seeking a fourth root never is, while the odd part is at most 2,047.
abbrev pub SeekFourthFound : Type 0
SeekFourthFound =
    (m : Meaning) → Laws m → Lawful m → (calls : List Call) → odd m.size ≤ 2047 → answer (sought_fourth m (run m calls)) ≢ Err Unfound

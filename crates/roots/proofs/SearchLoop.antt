-- The search through the factors and the powers of each ζ, turn by turn.
use Rattle.std.proofs.Common.{◌≡◌, ℕ, ◌+◌, ◌-◌, ◌*◌, ◌/◌, ◌^◌, ◌<◌, ◌≤◌, Bool, true, false, cond, List, ◌∷◌, length, get_or, drop, Some, None, Ok, Err, Option, Result, sym, refl, ap, ◌∙◌, ap₂, arith}
use Rattle.std.proofs.lemmas.List.{at_drop_more, at_drop_all}
use Rattle.theory.specs.First.{first}
use Rattle.theory.specs.Meaning.{Meaning}
use Rattle.theory.specs.Operation.{multiplication}
use Rattle.theory.specs.Power.{power}
use Rattle.theory.specs.declared.Ratio.{Ratio}
use Rattle.theory.proofs.Powers.{pow_0}
use Rattle.theory.proofs.Search.{turn_none, turn_here, turn_later}
use Rattle.joining.specs.declared.JoiningFault.{JoiningFault}
use Rattle.refusals.specs.declared.Layer.TheVariants.{Search}
use Rattle.refusals.specs.declared.Refusal.{Refusal}
use Rattle.refusals.specs.declared.Refusal.TheVariants.{Unlawful}
use Rattle.roots.specs.declared.factor.Factor.{Factor}
use Rattle.roots.specs.Rooting.{ended, refused_by, squares_to, turned, matches, searched}
use Rattle.roots.specs.Steps.{passed_on, counted}
use Rattle.roots.proofs.OrderLoop.{next_power}
use Rattle.roots.proofs.Searching.{factor_climb, searched_end, searched_fault, searched_over, searched_missed, searched_matched}

-- ---- what came through `?`

pub passed_ok : {A : Type 0} (o : Result A JoiningFault) (a : A) → Ok a ≡ passed_on o → o ≡ Ok a
passed_ok (Err fault) a e = let z : ◌≡◌ {A = ℕ} 0 1 = cc in absurd (omega arith)
passed_ok (Ok b) a e = cc

pub passed_err : {A : Type 0} (o : Result A JoiningFault) (why : Refusal) → Err why ≡ passed_on o → (fault : JoiningFault) × (o ≡ Err fault) × (why ≡ refused_by fault)
passed_err (Err fault) why e = (fault, refl, cc)
passed_err (Ok b) why e = let z : ◌≡◌ {A = ℕ} 0 1 = cc in absurd (omega arith)

-- ---- the powers of one ζ

module _ (m : Meaning) (mark : ℕ) (e : Ratio) (zeta last : ℕ) where
  -- After j tries: the power in hand, the tests made, and that none matched yet.
  pub record TriesOn (j z tests : ℕ) (before : ℕ) : Type 0 where
    pub value : z ≡ power m zeta j
    pub count : tests ≡ before + j
    pub later : first (matches m mark e zeta) 1 last ≡ first (matches m mark e zeta) (j + 1) (last + 1 - (j + 1))

  pub record Matched (ratio : Ratio) (tests before : ℕ) : Type 0 where
    pub j : ℕ
    pub found : first (matches m mark e zeta) 1 last ≡ Some j
    pub ratio_is : ratio ≡ turned m e (power m zeta j)
    pub tests_are : tests ≡ before + j

  pub tries_start : (tests : ℕ) → TriesOn 0 1 tests tests
  tries_start tests = record {
    value = sym (pow_0 (multiplication m) zeta);
    count = omega arith;
    later = ap (first (matches m mark e zeta) 1) (let s : last ≡ last + 1 - 1 = omega arith in s);
  }

  module _ (j z tests before next : ℕ) (ratio : Ratio) (h : j < last) (on : TriesOn j z tests before) (n : next ≡ m.product z zeta) (t : ratio ≡ turned m e next) where
    here : next ≡ power m zeta (j + 1)
    here = n ∙ next_power m zeta j z on.value

    there : (b : Bool) → b ≡ squares_to m mark ratio → matches m mark e zeta (j + 1) ≡ b
    there b s = sym (s ∙ ap (squares_to m mark) (t ∙ ap (turned m e) here))

    pub tries_turn : false ≡ squares_to m mark ratio → TriesOn (j + 1) next (tests + 1) before
    tries_turn miss = record {
      value = here;
      count = omega (arith, on.count);
      later = on.later ∙ turn_later (matches m mark e zeta) (j + 1) (last + 1) (omega arith) (there false miss);
    }

    pub tries_match : true ≡ squares_to m mark ratio → Matched ratio (tests + 1) before
    tries_match hit = record {
      j = j + 1;
      found = on.later ∙ turn_here (matches m mark e zeta) (j + 1) (last + 1) (omega arith) (there true hit);
      ratio_is = t ∙ ap (turned m e) here;
      tests_are = omega (arith, on.count);
    }

  pub tries_end : (j z tests before : ℕ) → last ≤ j → j ≤ last → TriesOn j z tests before → (first (matches m mark e zeta) 1 last ≡ None) × (tests ≡ before + last)
  tries_end j z tests before h k on = (
    on.later ∙ turn_none (matches m mark e zeta) (j + 1) (last + 1) (omega arith),
    omega (arith, on.count),
  )

-- ---- the factors

module _ (m : Meaning) (mark g n : ℕ) (xs : List Factor) where
  -- Before factor i: those before it matched nothing, and the counts are as so far. The bounds keep the sums within their type.
  pub record SearchesOn (i : ℕ) (serves : Bool) (made tests : ℕ) : Type 0 where
    pub later : searched m mark g xs false n 0 ≡ searched m mark g (drop i xs) serves made tests
    pub few_made : made ≤ 2 ^ 32 + i * 2 ^ 23
    pub few_tests : tests ≤ i * 2047

  pub searches_end : (i : ℕ) (serves : Bool) (made tests : ℕ) → length xs ≤ i → SearchesOn i serves made tests → searched m mark g xs false n 0 ≡ ended (Err (Unlawful Search (cond serves 5 4) g)) made
  searches_end i serves made tests h on =
      on.later ∙ at_drop_all (λ l. searched m mark g l serves made tests) xs i h ∙ searched_end m mark g serves made tests

  module _ (i : ℕ) (d : Factor) (serves : Bool) (made tests : ℕ) (h : i < length xs) (on : SearchesOn i serves made tests) where
    at : searched m mark g xs false n 0 ≡ searched m mark g (get_or xs i d ∷ drop (i + 1) xs) serves made tests
    at = on.later ∙ at_drop_more (λ l. searched m mark g l serves made tests) xs i d h

    -- the ladder of factor i has no rank
    pub searches_fault : (why : Refusal) → Err why ≡ passed_on (factor_climb m mark g (get_or xs i d)) → Err why ≡ counted (searched m mark g xs false n 0)
    searches_fault why e =
        let p = passed_err (factor_climb m mark g (get_or xs i d)) why e in
        ap Err p.2
        ∙ sym (ap counted (at ∙ searched_fault m mark g (get_or xs i d) (drop (i + 1) xs) serves made tests p.0 p.1))

    -- factor i does not serve
    pub searches_over : (k : ℕ) → Ok (None, k) ≡ passed_on (factor_climb m mark g (get_or xs i d)) → k ≤ 2 ^ 23 → SearchesOn (i + 1) serves (made + k) tests
    searches_over k e few = record {
      later =
          at
          ∙ searched_over m mark g (get_or xs i d) (drop (i + 1) xs) serves made tests k (passed_ok (factor_climb m mark g (get_or xs i d)) (None, k) e);
      few_made = omega (arith, on.few_made);
      few_tests = omega (arith, on.few_tests);
    }

    -- factor i serves, and nothing matches
    pub searches_missed : (e : Ratio) (k tried : ℕ) → Ok (Some e, k) ≡ passed_on (factor_climb m mark g (get_or xs i d)) → k ≤ 2 ^ 23 → (get_or xs i d).r ≤ 4095
        → (first (matches m mark e (get_or xs i d).zeta) 1 ((get_or xs i d).r / 2) ≡ None) × (tried ≡ tests + (get_or xs i d).r / 2)
        → SearchesOn (i + 1) true (made + k) tried
    searches_missed e k tried c few small miss = record {
      later =
          at
          ∙ searched_missed m mark g (get_or xs i d) (drop (i + 1) xs) serves made tests e k (passed_ok (factor_climb m mark g (get_or xs i d)) (Some e, k) c) miss.0
          ∙ ap (searched m mark g (drop (i + 1) xs) true (made + k)) (sym miss.1);
      few_made = omega (arith, on.few_made);
      few_tests = omega (arith, on.few_tests, miss.1);
    }

    -- factor i serves, and the ratio is the first that matches
    pub searches_matched : (e ratio : Ratio) (k tried : ℕ) → Ok (Some e, k) ≡ passed_on (factor_climb m mark g (get_or xs i d))
        → Matched m mark e (get_or xs i d).zeta ((get_or xs i d).r / 2) ratio tried tests
        → searched m mark g xs false n 0 ≡ ended (Ok (ratio, tried)) (made + k)
    searches_matched e ratio k tried c hit =
        at
        ∙ searched_matched m mark g (get_or xs i d) (drop (i + 1) xs) serves made tests e k hit.j (passed_ok (factor_climb m mark g (get_or xs i d)) (Some e, k) c) hit.found
        ∙ ap₂ (λ (x : Ratio) (t : ℕ). ended (Ok (x, t)) (made + k)) (sym hit.ratio_is) (sym hit.tests_are)

  -- what the function answers, where the factors are those that are held
  module _ (held : List Factor) (same : xs ≡ held) where
    pub over : counted (searched m mark g xs false n 0) ≡ counted (searched m mark g held false n 0)
    over = ap (λ l. counted (searched m mark g l false n 0)) same

    pub answers_match : (found : Option Ratio) (ratio hit : Ratio) (tests made t k : ℕ) → found ≡ Some ratio → found ≡ Some hit → tests ≡ t → made ≡ k
        → searched m mark g xs false n 0 ≡ ended (Ok (hit, t)) k → Ok ((ratio, tests), made) ≡ counted (searched m mark g held false n 0)
    answers_match found ratio hit tests made t k e f a b w =
        let all : Ok ((ratio, tests), made) ≡ Ok ((hit, t), k) = cc in all ∙ sym (ap counted w) ∙ over

    pub answers_none : (serves now : Bool) (step k : ℕ) (why : Refusal) → now ≡ serves → step ≡ cond now 5 4 → why ≡ Unlawful Search step g
        → searched m mark g xs false n 0 ≡ ended (Err (Unlawful Search (cond serves 5 4) g)) k → Err why ≡ counted (searched m mark g held false n 0)
    answers_none serves now step k why e f u w =
        ap Err u ∙ ap (λ s. Err (Unlawful Search s g)) (f ∙ ap (λ b. cond b 5 4) e) ∙ sym (ap counted w) ∙ over

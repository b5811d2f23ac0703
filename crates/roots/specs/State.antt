-- What a draft or a plan holds, and how it begins.
use Rattle.std.specs.Prelude.{ℕ, zero, suc, ◌-◌, ◌/◌, ◌%◌, ◌^◌, Bool, true, false, List, [], None, Option, ◌==◌}
use Rattle.roots.specs.declared.factor.Factor.{Factor}

pub record State : Type 0 where
  -- the factors held, in the order adopted
  pub factors : List Factor
  -- what is left of the odd part of the size less one once the held powers are divided out
  pub rest : ℕ
  -- a number whose square is the negative of 1
  pub fourth : Option ℕ

-- The sizes that are served.
abbrev pub served : ℕ → Bool
served size = size % 8 == 1

-- How often r goes into n, where it goes in so many times at most; 64 times is enough for every n below 2 ^ 64 and r above 1.
unfoldable pub multiplicity_in : ℕ → ℕ → ℕ → ℕ
multiplicity_in zero r n = 0
multiplicity_in (suc d) r n = elim (n % r == 0) [ true ↦ suc (multiplicity_in d r (n / r)) | false ↦ 0 ]

unfoldable pub multiplicity : ℕ → ℕ → ℕ
multiplicity r n = multiplicity_in 64 r n

-- What is left of n once r is divided out as often as it goes in.
unfoldable pub cofactor : ℕ → ℕ → ℕ
cofactor r n = n / r ^ multiplicity r n

-- size − 1 = 2 ^ twos × odd
abbrev pub twos : ℕ → ℕ
twos size = multiplicity 2 (size - 1)

abbrev pub odd : ℕ → ℕ
odd size = cofactor 2 (size - 1)

-- A draft begins with no factor, no fourth root and the whole odd part as its rest.
abbrev pub start : ℕ → State
start size = record { factors = []; rest = odd size; fourth = None }

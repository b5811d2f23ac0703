-- What a call that writes bytes answers, and what its output then holds.
use Rattle.std.specs.Prelude.{ℕ, List, ◌++◌, length, drop, Ok, Err, Result}
use Rattle.refusals.specs.declared.Refusal.{Refusal}

-- Bytes to write, or a refusal.
abbrev pub Written : Type 0
Written = Result (List ℕ) Refusal

-- The bytes stand at the front of the output, and what lies behind them stays as found. A refused call writes nothing.
abbrev pub left_by : Written → List ℕ → List ℕ
left_by (Ok bytes) out = bytes ++ drop (length bytes) out
left_by (Err why) out = out

-- how many bytes were written
abbrev pub length_by : Written → Result ℕ Refusal
length_by (Ok bytes) = Ok (length bytes)
length_by (Err why) = Err why

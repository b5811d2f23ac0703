-- The number of a refusal has at most two digits.
use Rattle.std.proofs.Common.{◌≡◌, ℕ, ◌+◌, ◌<◌, true, List, arith}
use Rattle.refusals.specs.Number.{numbered}
use Rattle.refusals.specs.declared.Refusal.{Refusal}
use Rattle.refusals.specs.declared.Refusal.TheVariants.{Modulus, Size, Full, Base, Power, Shared, Root, Unfound, NoFourth, Rest, Mark, Zero, NoSquare, Unlawful, Room, Format, Layout, Track, Line}
use Rattle.lists.specs.Texts.{noted}
use Rattle.lists.proofs.Plain.{Plain, worded, plain_noted}

numbered_low : (why : Refusal) → numbered why < 100
numbered_low Modulus = omega arith
numbered_low Size = omega arith
numbered_low Full = omega arith
numbered_low Base = omega arith
numbered_low Power = omega arith
numbered_low Shared = omega arith
numbered_low Root = omega arith
numbered_low Unfound = omega arith
numbered_low NoFourth = omega arith
numbered_low Rest = omega arith
numbered_low Mark = omega arith
numbered_low Zero = omega arith
numbered_low NoSquare = omega arith
numbered_low (Unlawful layer step code) = omega arith
numbered_low Room = omega arith
numbered_low Format = omega arith
numbered_low Layout = omega arith
numbered_low Track = omega arith
numbered_low Line = omega arith

pub plain_refused : (m : ℕ) (words : List ℕ) → worded m words ≡ true → (why : Refusal) → Plain (m + 2) (noted words (numbered why))
plain_refused m words e why =
    let low = numbered_low why in
    plain_noted m 2 words (numbered why) e (omega arith) (omega arith) (omega arith)

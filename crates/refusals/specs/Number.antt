-- The number of each refusal.
use Rattle.std.specs.Prelude.{ℕ}
use Rattle.refusals.specs.declared.Refusal.{Refusal}
use Rattle.refusals.specs.declared.Refusal.TheVariants.{Modulus, Size, Full, Base, Power, Shared, Root, Unfound, NoFourth, Rest, Mark, Zero, NoSquare, Unlawful, Room, Format, Layout, Track, Line}

abbrev pub numbered : Refusal → ℕ
numbered Modulus = 1
numbered Size = 2
numbered Full = 3
numbered Base = 4
numbered Power = 5
numbered Shared = 6
numbered Root = 7
numbered Unfound = 8
numbered NoFourth = 9
numbered Rest = 10
numbered Mark = 11
numbered Zero = 12
numbered NoSquare = 13
numbered (Unlawful layer step code) = 14
numbered Room = 15
numbered Format = 16
numbered Layout = 17
numbered Track = 18
numbered Line = 19

-- The reason of each refusal, in words.
use Rattle.std.specs.Prelude.{ℕ, List, ◌++◌, codes}
use Rattle.std.specs.Fmt.{decimal}
use Rattle.refusals.specs.declared.Layer.{Layer}
use Rattle.refusals.specs.declared.Layer.TheVariants.{Ring, Joining, Search}
use Rattle.refusals.specs.declared.Refusal.{Refusal}
use Rattle.refusals.specs.declared.Refusal.TheVariants.{Modulus, Size, Full, Base, Power, Shared, Root, Unfound, NoFourth, Rest, Mark, Zero, NoSquare, Unlawful, Room, Format, Layout, Track, Line}

abbrev pub layer_name : Layer → List ℕ
layer_name Ring = codes "ring"
layer_name Joining = codes "joining"
layer_name Search = codes "search"

abbrev pub reason : Refusal → List ℕ
reason Modulus = codes "the modulus is not one that the field takes"
reason Size = codes "the size does not leave 1 on division by 8"
reason Full = codes "eight factors are held"
reason Base = codes "r is even, below 3 or above 4095"
reason Power = codes "f is 0, or r cannot be divided out of the rest f times"
reason Shared = codes "r shares a divisor above 1 with a held r"
reason Root = codes "the root is not below the size, or lacks the stated order or square"
reason Unfound = codes "no code from 1 to 4095 leads to the root sought"
reason NoFourth = codes "the plan has no fourth root"
reason Rest = codes "the rest is above 1024"
reason Mark = codes "the mark is not below the size"
reason Zero = codes "the mark is 0"
reason NoSquare = codes "the mark is no square"
reason (Unlawful layer step code) =
    codes "the field is not lawful, as the " ++ layer_name layer ++ codes " shows in step " ++ decimal step
    ++ codes " with the code " ++ decimal code
reason Room = codes "the bytes for output are too few"
reason Format = codes "the book has fewer than 16 bytes, or its first word is not 1"
reason Layout = codes "the book's count is above 8, or its length or an offset does not fit the count"
reason Track = codes "the track has fewer than 8 bytes, its count is above 512, or its offset or length does not fit the count"
reason Line = codes "the line number is not below the track's count"

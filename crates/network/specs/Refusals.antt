-- The number and the words of each refusal.
use Rattle.std.specs.Prelude.{ℕ, List, codes}
use Rattle.network.specs.declared.refusal.Refusal.{Refusal}
use Rattle.network.specs.declared.refusal.Refusal.TheVariants.{Ends, Edition, UnknownScale, Size, Bit, Coefficient, Window, Crossed, Extra, Place, Direction, Lengths, Impossible, NotInStep, Buffer}

abbrev pub number : Refusal → ℕ
number Ends = 1
number Edition = 2
number UnknownScale = 3
number Size = 4
number Bit = 5
number Coefficient = 6
number Window = 7
number Crossed = 8
number Extra = 9
number Place = 10
number Direction = 11
number Lengths = 12
number Impossible = 13
number NotInStep = 14
number Buffer = 15

-- what is printed of each refusal
abbrev pub words : Refusal → List ℕ
words Ends = codes "the file ends too soon"
words Edition = codes "an edition that is not known"
words UnknownScale = codes "a scale that is not known"
words Size = codes "a number of stations or benches outside 1 to 32"
words Bit = codes "a bit that stands for nothing"
words Coefficient = codes "a coefficient that is absent or not of the scale"
words Window = codes "a value that is no window value of the scale"
words Crossed = codes "a floor above its ceiling"
words Extra = codes "bytes after the end of the file"
words Place = codes "no such side or bench"
words Direction = codes "a change in the wrong direction"
words Lengths = codes "lengths or sizes that disagree"
words Impossible = codes "the plan is impossible"
words NotInStep = codes "the plan is not in step"
words Buffer = codes "a buffer that is too short"

-- The causes of refusal by name, and their numbers (document 01, "The rack table"; document 02, Papers 2, 5 and 6). When each holds is in Refusal.
use Rattle.std.specs.Prelude.{ℕ, Option, None, Some, Result, Ok, Err}
use Rattle.table.specs.declared.Refusal.{Refusal}
use Rattle.table.specs.declared.Refusal.TheVariants.{Length, Head, Chain, Links, Trees, Placements, Pitch, FreeChain, Place, NoneFree, Held}

-- "The rack table" 1 to 6; 7 "for pitch 0"; 8 the free chain; 9 "when the named box or side cannot be had"; 10 "when no record is free"; 11 "when another
-- record would now be used"
abbrev pub number_of : Refusal → ℕ
number_of Length = 1
number_of Head = 2
number_of Chain = 3
number_of Links = 4
number_of Trees = 5
number_of Placements = 6
number_of Pitch = 7
number_of FreeChain = 8
number_of Place = 9
number_of NoneFree = 10
number_of Held = 11

-- The number of an answer's refusal; 0 is no refusal.
abbrev pub refused_by : {A : Type 0} → Result A Refusal → ℕ
refused_by (Ok a) = 0
refused_by (Err r) = number_of r

-- The number of a refusal, if there is one; 0 is none.
abbrev pub number_or_0 : Option Refusal → ℕ
number_or_0 None = 0
number_or_0 (Some r) = number_of r

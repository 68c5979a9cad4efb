-- Tests that the code makes, proved to agree with the meaning in Segment.antt and Meeting.antt (proofs/SharedPoint.antt, proofs/Crossing.antt), and points
-- transposed and numbered.
use Rattle.std.specs.Prelude.{Bool, true, false, ◌&&◌, ◌||◌, ℕ, ◌+◌, ◌*◌, min, max, leb, ℤ, pos}
use Rattle.std.specs.Int.Signed.{le_z, lt_z}
use Rattle.segment.specs.declared.Point.{Point}
use Rattle.segment.specs.Segment.{at, cross}

-- the intervals from a to b and from x to y have a number in common
unfoldable pub overlap : ℕ → ℕ → ℕ → ℕ → Bool
overlap a b x y = leb (min a b) (max x y) && leb (min x y) (max a b)

-- below, or at most
abbrev pub order : Bool → ℤ → ℤ → Bool
order true = lt_z
order false = le_z

-- zero is from d to e (by le_z), or strictly between them (by lt_z)
unfoldable pub spans : (ℤ → ℤ → Bool) → ℤ → ℤ → Bool
spans by d e = by d (pos 0) && by (pos 0) e

-- X and Y are not both strictly on one side of the line through A and B (by le_z), or they are strictly on either side of it (by lt_z)
unfoldable pub astride : (ℤ → ℤ → Bool) → Point → Point → Point → Point → Bool
astride by A B X Y = spans by (cross A B X) (cross A B Y) || spans by (cross A B Y) (cross A B X)

-- a point with column and row exchanged
abbrev pub transpose : Point → Point
transpose P = at P.row P.column

-- the number of a point, counted row by row on a grid of b columns
abbrev pub number : ℕ → Point → ℕ
number b P = b * P.row + P.column

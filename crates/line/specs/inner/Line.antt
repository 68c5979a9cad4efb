-- A line as a number of 64 bits: from the top, the row and the column of its end, the row and the column of its start, sixteen bits each.
use Rattle.std.specs.Prelude.{List, ℕ, ◌/◌, ◌%◌, ◌≤◌, ◌<◌, get_or}
use Rattle.segment.specs.declared.Point.{Point}
use Rattle.segment.specs.Segment.{at}

unfoldable pub end_of : ℕ → Point
end_of k = at (k / 4294967296 % 65536) (k / 281474976710656)

unfoldable pub start_of : ℕ → Point
start_of k = at (k % 65536) (k / 65536 % 65536)

-- The numbers of its two ends, counted row by row on a grid of 65,536 columns.
abbrev pub first : ℕ → ℕ
first k = k % 4294967296

abbrev pub last : ℕ → ℕ
last k = k / 4294967296

-- The first n lines do not go back: none starts at a greater number than it ends at.
pub record Onward (n : ℕ) (l : List ℕ) : Type 0 where
  pub onward : (i : ℕ) → i < n → first (get_or l i 0) ≤ last (get_or l i 0)

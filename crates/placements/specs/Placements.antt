-- Placements: the columns and rows of records (document 01, "The rack table").
use Rattle.std.specs.Prelude.{List, ℕ, ◌+◌, ◌*◌, get_or, set}
use Rattle.segment.specs.declared.Point.{Point}
use Rattle.segment.specs.Segment.{at}

-- "record k has its column at place 2k and its row at 2k + 1"
abbrev pub column_of : List ℕ → ℕ → ℕ
column_of p k = get_or p (2 * k) 0

abbrev pub row_of : List ℕ → ℕ → ℕ
row_of p k = get_or p (2 * k + 1) 0

-- The point of record k.
abbrev pub point_of : List ℕ → ℕ → Point
point_of p k = at (column_of p k) (row_of p k)

-- The placements with this column and row for record k.
abbrev pub with_point : (k column row : ℕ) → List ℕ → List ℕ
with_point k column row p = set (set p (2 * k) column) (2 * k + 1) row

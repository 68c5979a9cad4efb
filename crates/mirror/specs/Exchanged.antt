-- The exchanged table and the exchanged placements (document 02, Papers 1 and 13): left and right, and column and row, of each chained node.
use Rattle.std.specs.Prelude.{List, [], ◌∷◌, ℕ}
use Rattle.placements.specs.Placements.{column_of, row_of, with_point}
use Rattle.table.specs.Table.{left_of, right_of, chain}
use Rattle.table.specs.Writing.{with_word}

-- Left and right of record k exchanged; its next and its tag are kept.
unfoldable pub exchange_links : ℕ → List ℕ → List ℕ
exchange_links k t = with_word k 2 (left_of t k) (with_word k 1 (right_of t k) t)

-- Column and row of record k exchanged.
unfoldable pub exchange_point : ℕ → List ℕ → List ℕ
exchange_point k p = with_point k (row_of p k) (column_of p k) p

-- At each of the given records, one after the other.
unfoldable pub each : (ℕ → List ℕ → List ℕ) → List ℕ → List ℕ → List ℕ
each f [] l = l
each f (k ∷ ks) l = each f ks (f k l)

-- "the mirrored table, in which each chained box has left and right swapped"
unfoldable pub exchanged : List ℕ → List ℕ
exchanged t = each exchange_links (chain t) t

-- "with its columns and rows exchanged": the placements p of the table t, those of chained nodes exchanged
unfoldable pub exchanged_placements : List ℕ → List ℕ → List ℕ
exchanged_placements t p = each exchange_point (chain t) p

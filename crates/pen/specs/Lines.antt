-- The lines of a table as a list, in their order (document 02, Paper 2).
use Rattle.std.specs.Prelude.{List, [], ◌∷◌, ◌++◌, ℕ, zero, suc, Option}
use Rattle.std.specs.List.{slice_get}
use Rattle.table.specs.Table.{left_of, right_of, chain}
use Rattle.pen.specs.declared.lines.Ends.{Ends}

-- The line (`Line`, table/specs/Table) from record k to what its left or right names, by its ends; "zero is none"
unfoldable pub line_to : ℕ → ℕ → List Ends
line_to k zero = []
line_to k (suc c) = record { parent = k; child = suc c } ∷ []

-- "by parent in chain order, left first": the lines from the given records
unfoldable pub lines_from : List ℕ → List ℕ → List Ends
lines_from t [] = []
lines_from t (k ∷ ks) = line_to k (left_of t k) ++ (line_to k (right_of t k) ++ lines_from t ks)

-- All lines of a table.
abbrev pub lines : List ℕ → List Ends
lines t = lines_from t (chain t)

-- Line i of a list, from 0; past the last there is none.
abbrev pub line_at : List Ends → ℕ → Option Ends
line_at ls i = slice_get ls i

-- The text for a table (document 01, the last part of "Sheets worked by hand"). Bytes are ASCII.
use Rattle.std.specs.Prelude.{true, false, cond, List, [], ◌∷◌, ◌++◌, ℕ, ltb, eqb, replicate}
use Rattle.fields.specs.Fields.{decimal, fields}
use Rattle.placements.specs.Placements.{column_of, row_of}
use Rattle.table.specs.Table.{tag_of, chain}
use Rattle.drawing.specs.declared.Plan.{Plan}
use Rattle.drawing.specs.Answer.{Drawn}
use Rattle.drawing.specs.Answer.{drawn_of, placed_in}

-- "It prints `plan`, then boxes, width and height": 112 is p, 108 l, 97 a, 110 n
unfoldable pub plan_line : Plan → List ℕ
plan_line d = 112 ∷ 108 ∷ 97 ∷ 110 ∷ fields (d.nodes ∷ d.width ∷ d.height ∷ [])

-- "record, column, row, tag": the line of record k
unfoldable pub node_line : List ℕ → List ℕ → ℕ → List ℕ
node_line t p k = decimal k ++ fields (column_of p k ∷ row_of p k ∷ tag_of t k ∷ [])

-- "then one line a box in chain order"
unfoldable pub node_lines : List ℕ → List ℕ → List ℕ → List ℕ
node_lines t p [] = []
node_lines t p (k ∷ ks) = node_line t p k ++ node_lines t p ks

-- "A refusal prints one line only, as `refused 3`": 114 is r, 101 e, 102 f, 117 u, 115 s, 100 d
unfoldable pub refused_line : ℕ → List ℕ
refused_line n = 114 ∷ 101 ∷ 102 ∷ 117 ∷ 115 ∷ 101 ∷ 100 ∷ fields (n ∷ [])

-- The text of an answer of the drawer for the table t, with p the placements afterwards.
unfoldable pub text_from : List ℕ → Drawn → List ℕ → List ℕ
text_from t d p = elim (eqb d.refusal 0) [ true ↦ plan_line d.plan ++ node_lines t p (chain t) | false ↦ refused_line d.refusal ]

-- The placements lent to the drawer: 2 times 4,097 zeros, enough for every table.
abbrev pub lent : List ℕ
lent = replicate 8194 0

-- "The program reads a table from standard input": what it prints for the bytes t
unfoldable pub text_of : List ℕ → List ℕ
text_of t = text_from t (drawn_of t lent) (placed_in t lent)

-- What is written into a buffer of n bytes: the text, or nothing if there are not 24 bytes for each of 4,097 lines.
unfoldable pub text_within : ℕ → List ℕ → List ℕ
text_within n t = cond (ltb n 98328) [] (text_of t)

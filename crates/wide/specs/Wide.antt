-- The wide plan and the whole answer of its call, for any bytes and placements (document 02, Papers 1 and 8; document 004, Corollary 1).
use Rattle.std.specs.Prelude.{List, [], ◌∷◌, map, ℕ, length, Result}
use Rattle.segment.specs.Segment.{at}
use Rattle.table.specs.Table.{chain}
use Rattle.table.specs.Tree.{Tree}
use Rattle.table.specs.Trees.{trees}
use Rattle.table.specs.Refusal.{refusal}
use Rattle.table.specs.declared.Refusal.{Refusal}
use Rattle.table.specs.Said.{Said, said_of, answered, kept_on_refusal}
use Rattle.layout.specs.Layout.{Layout, blank, placed, mirror}
use Rattle.layout.specs.Trees.{draw_trees, width_of, height_of}
use Rattle.drawing.specs.Answer.{store_all}
use Rattle.drawing.specs.declared.Plan.{Plan}

-- "exchange column and row of each box"
unfoldable pub transposed : Layout → Layout
transposed blank = blank
transposed (placed k P a b) = placed k (at P.row P.column) (transposed a) (transposed b)

-- "draw the mirror image of the tree, then exchange column and row of each box": so of each of the trees
unfoldable pub draw_wide : List Tree → List Layout
draw_wide ts = map transposed (draw_trees (map mirror ts))

-- What the answer says: a plan its nodes, width and height; "a refusal returns the number alone".
abbrev pub said : Result Plan Refusal → Said
said = said_of (λ plan. plan.nodes ∷ plan.width ∷ plan.height ∷ [])

-- What it has to say.
unfoldable pub wide_of : List ℕ → List ℕ → Said
wide_of t p = answered (refusal t (length p)) (length (chain t) ∷ width_of (draw_wide (trees t)) ∷ height_of (draw_wide (trees t)) ∷ [])

-- Every placement afterwards: all kept on a refusal.
unfoldable pub wide_placed_in : List ℕ → List ℕ → List ℕ
wide_placed_in t p = kept_on_refusal (refusal t (length p)) (store_all (draw_wide (trees t)) p) p

-- The drawer's answers, plain and wide, before document 02, Paper 8, when a table had one tree: "Tables taken before get the plan they had."
use Rattle.std.specs.Prelude.{◌≡◌, List, [], ◌∷◌, ℕ, length}
use Rattle.table.specs.Table.{chain}
use Rattle.table.specs.Tree.{tree}
use Rattle.layout.specs.Layout.{Layout, width, height, mirror}
use Rattle.layout.specs.Drawing.{draw}
use Rattle.drawing.specs.declared.Plan.{Plan}
use Rattle.drawing.specs.Answer.{store, drawn_of, placed_in}
use Rattle.wide.specs.Wide.{transposed, wide_of, wide_placed_in}

-- The plan was: the records on the chain, and the extents of the drawing of the tree of the head's root.
unfoldable pub plan_before : List ℕ → Plan
plan_before t = record { nodes = length (chain t); width = width (draw (tree t)); height = height (draw (tree t)) }

-- Refusal and plan, and every placement afterwards, are as they were.
pub record AsBefore (t p : List ℕ) : Type 0 where
  pub drawn : drawn_of t p ≡ record { refusal = 0; plan = plan_before t }
  pub after : placed_in t p ≡ store (draw (tree t)) p

-- The wide drawing was: that of the mirror image, with columns and rows exchanged.
abbrev pub wide_before : List ℕ → Layout
wide_before t = transposed (draw (mirror (tree t)))

-- What the wide call says, and every placement afterwards, are as they were.
pub record WideAsBefore (t p : List ℕ) : Type 0 where
  pub says : wide_of t p ≡ record { number = 0; values = length (chain t) ∷ width (wide_before t) ∷ height (wide_before t) ∷ [] }
  pub after : wide_placed_in t p ≡ store (wide_before t) p

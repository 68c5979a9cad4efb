-- The plan that the code returns for an accepted table: the nodes on its chain, and the extents of the wide drawings.
use Rattle.std.specs.Prelude.{List, ℕ, length}
use Rattle.table.specs.Table.{chain}
use Rattle.table.specs.Trees.{trees}
use Rattle.layout.specs.Trees.{width_of, height_of}
use Rattle.drawing.specs.declared.Plan.{Plan}
use Rattle.wide.specs.Wide.{draw_wide}

unfoldable pub wide_plan_of : List ℕ → Plan
wide_plan_of t = record { nodes = length (chain t); width = width_of (draw_wide (trees t)); height = height_of (draw_wide (trees t)) }

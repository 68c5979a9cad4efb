-- Corollary 1 of document 004 (document 02, Papers 1 and 8), for the bytes t and the placements p: what an accepted wide plan keeps.
use Rattle.std.specs.Prelude.{List, ℕ, ◌≤◌, length}
use Rattle.table.specs.Table.{chain}
use Rattle.table.specs.Trees.{trees}
use Rattle.layout.specs.Trees.{width_of, height_of}
use Rattle.mirror.specs.Exchanged.{exchanged, exchanged_placements}
use Rattle.verdict.specs.Verdict.{Verdict}
use Rattle.width.specs.Allowed.{allowed_width}
use Rattle.wide.specs.Wide.{draw_wide, wide_placed_in}

-- "A wide plan with its columns and rows exchanged must pass the sheet check against the mirrored table": `good`. "Height is then within the allowed width
-- and width is at most n": `low` and `bounded`, of the extents that the call answers (`wide_of`), "with n counting all boxes".
pub record WideKept (t p : List ℕ) : Type 0 where
  pub good : Verdict (exchanged t) (exchanged_placements t (wide_placed_in t p)) 0
  pub low : height_of (draw_wide (trees t)) ≤ allowed_width (length (chain t))
  pub bounded : width_of (draw_wide (trees t)) ≤ length (chain t)

-- `plan_of` meets its contract: the trees are drawn, and the extents are 16-bit numbers.
use native.Mathlib.Omega.{arith}
use Rattle.drawing.proofs.Whole.{small_plan, plan_drawn}
use Rattle.drawing.proofs.plan_of.Goals as goal

pub draw_trees-extent-requires : goal.draw_trees-extent-requires
draw_trees-extent-requires c =
    record {
      chained = c.requires.chained;
      led = c.requires.led;
      table_in_bounds = c.requires.table_in_bounds;
      nodes_value = c.requires.nodes_value;
    }

pub overflow_cast-result : goal.overflow_cast-result
overflow_cast-result c =
    omega (arith, small_plan _ c.args.subtrees.sound _ _ _ _ _ c.requires.nodes_value c.draw_trees-extent.ensures)

pub overflow_cast-result-2 : goal.overflow_cast-result-2
overflow_cast-result-2 c =
    omega (arith, small_plan _ c.args.subtrees.sound _ _ _ _ _ c.requires.nodes_value c.draw_trees-extent.ensures)

pub overflow_cast-result-3 : goal.overflow_cast-result-3
overflow_cast-result-3 c =
    omega (arith, small_plan _ c.args.subtrees.sound _ _ _ _ _ c.requires.nodes_value c.draw_trees-extent.ensures)

pub returns : goal.returns
returns c =
    plan_drawn _ _ _ _ _ _ c.requires.nodes_value c.draw_trees-extent.ensures

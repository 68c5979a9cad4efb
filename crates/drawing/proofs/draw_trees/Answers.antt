-- `draw_trees` draws the trees from the first root to the last. The loop keeps `Stacking`: what is left gives what all give.
use Rattle.std.proofs.Common.{arith, rules, ◌+◌, ◌-◌, ap, ◌∙◌}
use Rattle.drawing.proofs.Stacking.{Stacking, stack_start, stack_done, stack_chained, stack_record, stack_taken, stack_drawable, stack_step}
use Rattle.drawing.proofs.draw_trees.Goals as goal

pub loop-root-init : goal.loop-root-init
loop-root-init c =
    let r = c.requires in
    (omega arith, (omega arith, stack_start _ c.args.subtrees.sound r.chained _ _ r.nodes_value))

pub prepare-requires : goal.prepare-requires
prepare-requires c =
    record {
      chained = stack_chained _ c.args.subtrees.sound c.requires.chained c.loop-root.invariant.1.1 (omega arith) _ c.requires.led _
          c.from-root.ensures;
    }

pub draw_tree-top-requires : goal.draw_tree-top-requires
draw_tree-top-requires c =
    record {
      drawable = stack_drawable _ c.args.subtrees.sound c.requires.chained c.loop-root.invariant.1.1 (omega arith) _ c.requires.led _
          c.from-root.ensures _ _ _ (omega arith) c.prepare.ensures.prepared;
    }

pub bounds-subtrees-root : goal.bounds-subtrees-root
bounds-subtrees-root c =
    omega (
      arith,
      c.args.subtrees.sized.long,
      stack_record _ c.args.subtrees.sound c.requires.chained c.loop-root.invariant.1.1 (omega arith) _ c.requires.led _
          c.from-root.ensures,
    )

pub overflow_sub-unplaced : goal.overflow_sub-unplaced
overflow_sub-unplaced c =
    omega (
      arith,
      c.from-unplaced.ensures,
      stack_taken _ c.args.subtrees.sound c.requires.chained c.loop-root.invariant.1.1 (omega arith) _ c.requires.led _
          c.from-root.ensures _ c.args.subtrees.sized,
    )

pub loop-root-preserved : goal.loop-root-preserved
loop-root-preserved c =
    let stacked : Stacking c.args.subtrees.table.now c.args.placements.now c.max-width.result c.draw_tree-top.result
    (c.loop-root.unplaced - c.from-unplaced.result) (c.loop-root.root-index + 1) c.draw_tree-top.new.self.points.now =
    stack_step _ c.args.subtrees.sound c.requires.chained c.loop-root.invariant.1.1 (omega arith) _ c.requires.led _
    c.from-root.ensures _ c.args.subtrees.sized _ _ _ _
    (c.max-width.ensures ∙ omega (arith, c.prepare.ensures.wide)) c.draw_tree-top.ensures.drawn
    (ap (λ (n : _). c.loop-root.unplaced - n) c.from-unplaced.ensures)
    c.draw_tree-top.ensures.kept.long in
    (omega arith, (omega arith, search rules))

pub returns-after-loop-root : goal.returns-after-loop-root
returns-after-loop-root c =
    stack_done _ c.args.subtrees.sound c.requires.chained c.loop-root.invariant.1.1 (omega (arith, c.requires.led.long))

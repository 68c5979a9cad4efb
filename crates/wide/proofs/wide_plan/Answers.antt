-- `wide_plan` meets its contract: the copy, exchanged, is drawn, and the placements are exchanged (Mirrored).
use native.Mathlib.Omega.{arith}
use Rattle.table.proofs.Accepted.{records_bounds}
use Rattle.wide.proofs.Mirrored.{copied_front, mirrored_copy, listed_within, listed_room, mirrored_asked, mirrored_room, mirrored_nodes, wide_planned}
use Rattle.wide.proofs.wide_plan.Goals as goal

pub copy-requires : goal.copy-requires
copy-requires c = omega (arith, records_bounds _ c.args.subtrees.sound)

pub exchange_table-requires : goal.exchange_table-requires
exchange_table-requires c = listed_within _ _ _ c.args.subtrees.sound (copied_front _ _ _ c.copy.ensures) c.requires.listed

pub invariant_of-mirror_image : goal.invariant_of-mirror_image
invariant_of-mirror_image c =
    let e = mirrored_copy _ _ _ _ (copied_front _ _ _ c.copy.ensures) c.requires.listed c.exchange_table.ensures in
    let m = mirrored_asked _ _ _ _ c.args.subtrees.sound e c.requires.chained c.args.subtrees.sized c.requires.led in
    record { sound = m.sound; sized = m.sized }

pub plan_of-plan-requires-clause-chained : goal.plan_of-plan-requires-clause-chained
plan_of-plan-requires-clause-chained c =
    let e = mirrored_copy _ _ _ _ (copied_front _ _ _ c.copy.ensures) c.requires.listed c.exchange_table.ensures in
    (mirrored_asked _ _ _ _ c.args.subtrees.sound e c.requires.chained c.args.subtrees.sized c.requires.led).chained

pub plan_of-plan-requires-clause-led : goal.plan_of-plan-requires-clause-led
plan_of-plan-requires-clause-led c =
    let e = mirrored_copy _ _ _ _ (copied_front _ _ _ c.copy.ensures) c.requires.listed c.exchange_table.ensures in
    (mirrored_asked _ _ _ _ c.args.subtrees.sound e c.requires.chained c.args.subtrees.sized c.requires.led).led

pub plan_of-plan-requires-clause-table_in_bounds : goal.plan_of-plan-requires-clause-table_in_bounds
plan_of-plan-requires-clause-table_in_bounds c =
    let e = mirrored_copy _ _ _ _ (copied_front _ _ _ c.copy.ensures) c.requires.listed c.exchange_table.ensures in
    mirrored_room _ _ _ e c.requires.table_in_bounds

pub plan_of-plan-requires-clause-nodes_value : goal.plan_of-plan-requires-clause-nodes_value
plan_of-plan-requires-clause-nodes_value c =
    let e = mirrored_copy _ _ _ _ (copied_front _ _ _ c.copy.ensures) c.requires.listed c.exchange_table.ensures in
    mirrored_nodes _ _ _ e c.requires.listed

pub exchange_placements-requires : goal.exchange_placements-requires
exchange_placements-requires c =
    listed_room _ _ _ _ c.args.subtrees.sound c.requires.table_in_bounds c.plan_of-plan.auto.placements c.requires.listed

pub returns : goal.returns
returns c =
    let e = mirrored_copy _ _ _ _ (copied_front _ _ _ c.copy.ensures) c.requires.listed c.exchange_table.ensures in
    wide_planned _ _ _ _ _ _ _ c.args.subtrees.sound c.requires.table_in_bounds e c.requires.listed c.plan_of-plan.ensures
    c.exchange_placements.ensures

-- `draw_wide` meets its contract: the whole answer, for all bytes and placements.
use mathlib.Core.Path.{refl, sym, ◌∙◌}
use native.Mathlib.Omega.{arith}
use Rattle.records.proofs.Zeros.{blank}
use Rattle.table.proofs.Accepted.{some_root}
use Rattle.drawing.proofs.Whole.{sizes_listed, roots_lead, read_accepted}
use Rattle.wide.proofs.Answered.{wide_refused, wide_nothing, wide_answered}
use Rattle.wide.proofs.draw_wide.Goals as goal

pub read-requires : goal.read-requires
read-requires c = record { blank = blank }

pub returns-in-Err : goal.returns-in-Err
returns-in-Err c = wide_refused _ _ _ _ refl c.in-Err.ensures.refusal

pub returns-then-nodes-eq0 : goal.returns-then-nodes-eq0
returns-then-nodes-eq0 c =
    let d = c.in-Ok.ensures in
    wide_nothing _ _ (sym d.refusal) (read_accepted _ _ _ _ _ _ d).0 (sym d.accepted.traced.nodes ∙ c.if-nodes-eq0.true)

pub invariant_of-subtrees : goal.invariant_of-subtrees
invariant_of-subtrees c =
    let d = c.in-Ok.ensures in record {
      sound = (read_accepted _ _ _ _ _ _ d).0;
      sized = sizes_listed _ _ _ _ _ d.accepted (omega arith);
    }

pub wide_plan-plan-requires-clause-chained : goal.wide_plan-plan-requires-clause-chained
wide_plan-plan-requires-clause-chained c =
    let d = c.in-Ok.ensures in some_root _ (read_accepted _ _ _ _ _ _ d).0 _ d.accepted.traced.nodes c.if-nodes-eq0.false

pub wide_plan-plan-requires-clause-led : goal.wide_plan-plan-requires-clause-led
wide_plan-plan-requires-clause-led c = roots_lead _ _ _ _ c.in-Ok.ensures.accepted.traced c.if-nodes-eq0.false

pub wide_plan-plan-requires-clause-table_in_bounds : goal.wide_plan-plan-requires-clause-table_in_bounds
wide_plan-plan-requires-clause-table_in_bounds c = (read_accepted _ _ _ _ _ _ c.in-Ok.ensures).1

pub returns : goal.returns
returns c = wide_answered _ _ (sym c.in-Ok.ensures.refusal) _ _ c.wide_plan-plan.ensures

-- `try_draw` meets its contract: the whole answer, for all bytes and placements.
use mathlib.Core.Path.{sym, ◌∙◌}
use native.Mathlib.Omega.{arith}
use Rattle.records.proofs.Zeros.{blank}
use Rattle.table.proofs.Accepted.{some_root}
use Rattle.drawing.proofs.Whole.{sizes_listed, roots_lead, read_accepted, nothing_drawn, refusal_drawn, plan_answered}
use Rattle.drawing.proofs.try_draw.Goals as goal

pub read-requires : goal.read-requires
read-requires c = record { blank = blank }

pub returns-in_err-nodes : goal.returns-in_err-nodes
returns-in_err-nodes c = refusal_drawn _ _ _ _ c.from_residual.ensures.1 c.in_err-nodes.ensures.refusal

pub returns-then-nodes-eq0 : goal.returns-then-nodes-eq0
returns-then-nodes-eq0 c =
    let d = c.in_ok-nodes.ensures in
    nothing_drawn _ _ (sym d.refusal) (read_accepted _ _ _ _ _ _ d).0 (sym d.accepted.traced.nodes ∙ c.if-nodes-eq0.true)

pub invariant_of-subtrees : goal.invariant_of-subtrees
invariant_of-subtrees c =
    let d = c.in_ok-nodes.ensures in record {
      sound = (read_accepted _ _ _ _ _ _ d).0;
      sized = sizes_listed _ _ _ _ _ d.accepted (omega arith);
    }

pub plan_of-plan-requires-clause-chained : goal.plan_of-plan-requires-clause-chained
plan_of-plan-requires-clause-chained c =
    let d = c.in_ok-nodes.ensures in some_root _ (read_accepted _ _ _ _ _ _ d).0 _ d.accepted.traced.nodes c.if-nodes-eq0.false

pub plan_of-plan-requires-clause-led : goal.plan_of-plan-requires-clause-led
plan_of-plan-requires-clause-led c = roots_lead _ _ _ _ c.in_ok-nodes.ensures.accepted.traced c.if-nodes-eq0.false

pub plan_of-plan-requires-clause-table_in_bounds : goal.plan_of-plan-requires-clause-table_in_bounds
plan_of-plan-requires-clause-table_in_bounds c = (read_accepted _ _ _ _ _ _ c.in_ok-nodes.ensures).1

pub returns : goal.returns
returns c = plan_answered _ _ _ _ (sym c.in_ok-nodes.ensures.refusal) c.plan_of-plan.ensures

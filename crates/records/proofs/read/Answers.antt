-- `read` answers the refusal, and lists and sizes an accepted table.
use mathlib.Core.Path.{sym, ◌∙◌}
use native.Mathlib.Omega.{arith}
use Rattle.table.proofs.Accepted.{refusal_none}
use Rattle.trees.proofs.Rooting.{unfilled}
use Rattle.trees.proofs.Reached.{filled_chain}
use Rattle.records.proofs.Answer.{sized, no_nodes}
use lib.Seq.{length-take-le}
use Rattle.records.proofs.read.Goals as goal

pub measure-requires-clause-table_value : goal.measure-requires-clause-table_value
measure-requires-clause-table_value c = ((refusal_none _ _).0 (sym c.in_ok-nodes.ensures.refusal)).0

pub measure-requires-clause-filled : goal.measure-requires-clause-filled
measure-requires-clause-filled c = unfilled _ c.args.sizes.now (omega arith)

pub returns-then-nodes-ne0 : goal.returns-then-nodes-ne0
returns-then-nodes-ne0 c =
    let l = c.in_ok-nodes.ensures.accepted in
    let e = length-take-le _ _ l.ordered.enough in
    sized _ _ _ _ _ _ c.in_ok-nodes.ensures
    (filled_chain _ _ _ (rw e (l.ordered.queued c.if-nodes-ne0.true)) (e ∙ l.nodes) c.measure.ensures)

pub returns-else-nodes-ne0 : goal.returns-else-nodes-ne0
returns-else-nodes-ne0 c =
    sized _ _ _ _ _ _ c.in_ok-nodes.ensures
    (no_nodes _ _ (sym c.in_ok-nodes.ensures.accepted.nodes ∙ c.if-nodes-ne0.false) (unfilled _ c.args.sizes.now (omega arith)))

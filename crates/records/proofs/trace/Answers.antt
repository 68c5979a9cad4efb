-- `trace` answers the refusal, and lists an accepted table.
use Rattle.records.proofs.Answer.{refused_bytes, refused_placements, traced}
use Rattle.records.proofs.trace.Goals as goal

pub returns-in_err-nodes : goal.returns-in_err-nodes
returns-in_err-nodes c = refused_bytes _ _ _ _ _ _ c.from_residual.ensures.1 c.in_err-nodes.ensures

pub returns-then-places-table : goal.returns-then-places-table
returns-then-places-table c = refused_placements _ _ _ _ _ c.in_ok-nodes.ensures c.if-places-table.true

pub returns : goal.returns
returns c = traced _ _ _ _ _ c.in_ok-nodes.ensures c.if-places-table.false

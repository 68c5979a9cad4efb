-- `hold_and_hang` meets its contract.
use Rattle.hanging.proofs.Answering.{refused_kept}
use Rattle.changes.proofs.Running.{refused, halves}
use Rattle.changes.proofs.hold_and_hang.Goals as goal

pub returns-in_err-leaf : goal.returns-in_err-leaf
returns-in_err-leaf c = record {
  value = refused _ _ _ c.args.tag _ _ c.from_residual.ensures.1 c.in_err-leaf.ensures;
  table_after = (refused_kept _ _ _ _ _ c.in_err-leaf.ensures).1;
}

pub returns : goal.returns
returns c =
    let r = halves _ _ _ c.args.tag _ _ _ c.in_ok-leaf.ensures c.hang_held.ensures.value c.hang_held.ensures.table_after in
    record { value = r.0; table_after = r.1 }

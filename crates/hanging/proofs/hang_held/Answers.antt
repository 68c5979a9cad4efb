-- `hang_held` meets its contract.
use Rattle.hanging.proofs.Answering.{leaf_said, same_refused}
use Rattle.hanging.proofs.hang_held.Goals as goal

pub returns-in_err-leaf : goal.returns-in_err-leaf
returns-in_err-leaf c =
    let r = same_refused _ _ _ _ c.args.tag _ _ c.from_residual.ensures.1 c.in_err-leaf.ensures in
    record { value = r.0; table_after = r.1 }

pub hang_first-requires : goal.hang_first-requires
hang_first-requires c = (leaf_said _ _ _ c.in_ok-leaf.ensures).0

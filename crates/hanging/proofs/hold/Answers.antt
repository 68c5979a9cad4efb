-- `hold` meets its contract.
use mathlib.Core.Path.{sym}
use Rattle.hanging.proofs.Places.{hang_within}
use Rattle.hanging.proofs.Answering.{says_leaf, says_refused}
use Rattle.hanging.proofs.hold.Goals as goal

pub returns-in_err-check_hang : goal.returns-in_err-check_hang
returns-in_err-check_hang c = says_refused _ _ _ _ _ c.from_residual.ensures.1 c.in_err-check_hang.ensures

pub right-requires : goal.right-requires
right-requires c = (hang_within _ _ _ (sym c.in_ok-check_hang.ensures)).0

pub returns : goal.returns
returns c = says_leaf _ _ _ _ (sym c.in_ok-check_hang.ensures) c.right.ensures.0

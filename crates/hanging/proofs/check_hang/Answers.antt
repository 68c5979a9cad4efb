-- `check_hang` answers why a leaf cannot be hung.
use mathlib.Core.Path.{sym}
use Rattle.records.proofs.Zeros.{blank}
use Rattle.table.proofs.Accepted.{records_bounds}
use Rattle.hanging.proofs.Answering.{hang_fault}
use Rattle.hanging.proofs.check_hang.Goals as goal

pub examine-requires : goal.examine-requires
examine-requires c = record { blank = blank }

pub returns-in_err-count : goal.returns-in_err-count
returns-in_err-count c = hang_fault _ _ _ _ _ c.from_residual.ensures.1 c.in_err-count.ensures.refusal

pub right-requires : goal.right-requires
right-requires c = (records_bounds _ (sym c.in_ok-count.ensures.refusal)).0

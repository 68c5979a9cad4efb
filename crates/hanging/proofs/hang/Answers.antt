-- `hang` meets its contract.
use mathlib.Core.Path.{◌∙◌}
use Rattle.hanging.proofs.Answering.{hang_after, leaf_said, refused_kept}
use Rattle.hanging.proofs.hang.Goals as goal

pub returns-in_err-leaf-clause-table_after : goal.returns-in_err-leaf-clause-table_after
returns-in_err-leaf-clause-table_after c = (refused_kept _ _ _ _ _ c.in_err-leaf.ensures).1

pub hang_first-requires : goal.hang_first-requires
hang_first-requires c = (leaf_said _ _ _ c.in_ok-leaf.ensures).0

pub returns-clause-table_after : goal.returns-clause-table_after
returns-clause-table_after c = c.hang_first.ensures ∙ hang_after _ _ _ _ (leaf_said _ _ _ c.in_ok-leaf.ensures).0

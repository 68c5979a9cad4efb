-- `examine` answers the refusal from the bytes alone, and lists an accepted table.
use mathlib.Core.Path.{sym}
use Rattle.records.proofs.Form.{shaped}
use Rattle.chains.proofs.Zeros.{blank}
use Rattle.chains.proofs.Walking.{from_next}
use Rattle.records.proofs.Answer.{refused_form, refused_chain, refused_later, examined}
use Rattle.records.proofs.examine.Goals as goal

pub returns-in_err-check_shape : goal.returns-in_err-check_shape
returns-in_err-check_shape c = refused_form _ _ _ _ _ c.from_residual.ensures.1 c.in_err-check_shape.ensures

pub next-requires : goal.next-requires
next-requires c = (shaped _ (sym c.in_ok-check_shape.ensures)).head

pub walk-requires-clause-shaped : goal.walk-requires-clause-shaped
walk-requires-clause-shaped c = shaped _ (sym c.in_ok-check_shape.ensures)

pub walk-requires-clause-blank : goal.walk-requires-clause-blank
walk-requires-clause-blank c = blank

pub returns-in_default : goal.returns-in_default
returns-in_default c =
    refused_chain _ _ _ (shaped _ (sym c.in_ok-check_shape.ensures)) (rw (from_next _ _ c.next.ensures.0) at c.in_default.ensures)

pub check_trees-requires-clause-listed : goal.check_trees-requires-clause-listed
check_trees-requires-clause-listed c = rw (from_next _ _ c.next.ensures.0) at c.in-Some.ensures.listed

pub check_trees-requires-clause-marked : goal.check_trees-requires-clause-marked
check_trees-requires-clause-marked c = rw (from_next _ _ c.next.ensures.0) at c.in-Some.ensures.marked

pub returns-in_err-check_trees : goal.returns-in_err-check_trees
returns-in_err-check_trees c =
    let listed = rw (from_next _ _ c.next.ensures.0) at c.in-Some.ensures.listed in
    refused_later _ _ _ listed.shaped listed.sound _ _ _ c.from_residual-in_err-check_trees.ensures.1 c.in_err-check_trees.ensures

pub returns : goal.returns
returns c =
    let met = rw (from_next _ _ c.next.ensures.0) at c.in-Some.ensures in
    examined _ _ _ met.listed.shaped met.listed.sound _ _ met c.in_ok-check_trees.ensures

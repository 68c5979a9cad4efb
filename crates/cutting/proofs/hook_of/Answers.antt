-- `hook_of` answers the record and its word that name a leaf.
use mathlib.Core.Path.{sym, ◌∙◌}
use native.Mathlib.Omega.{arith}
use Rattle.table.proofs.Accepted.{records_bounds}
use Rattle.cutting.proofs.Hooks.{hook_right, hook_left, hook_head, hook_own}
use Rattle.cutting.proofs.hook_of.Goals as goal

pub returns-then-on_right-ne0 : goal.returns-then-on_right-ne0
returns-then-on_right-ne0 c =
    let n = c.namer_of-on_right.ensures in
    let d = hook_right c.args.forest.table.now c.args.k (λ e. c.if-on_right-ne0.true (n.0 ∙ e)) in
    record { holder_value = (n.0 ∙ sym d.0, n.1); slot_value = (sym d.1, omega arith) }

pub returns-then-on_left-ne0 : goal.returns-then-on_left-ne0
returns-then-on_left-ne0 c =
    let n = c.namer_of-on_left.ensures in
    let d = hook_left c.args.forest.table.now c.args.k (sym c.namer_of-on_right.ensures.0 ∙ c.if-on_right-ne0.false)
    (λ e. c.if-on_left-ne0.true (n.0 ∙ e)) in
    record { holder_value = (n.0 ∙ sym d.0, n.1); slot_value = (sym d.1, omega arith) }

pub returns-then-k-left : goal.returns-then-k-left
returns-then-k-left c =
    let d = hook_own c.args.forest.table.now c.args.k (sym c.namer_of-on_right.ensures.0 ∙ c.if-on_right-ne0.false) c.args.forest.listed.accepted
    (sym c.namer_of-on_left.ensures.0 ∙ c.if-on_left-ne0.false) (λ e. c.if-k-left.true (e ∙ sym c.left.ensures.0)) in
    record { holder_value = (sym d.0, c.requires.k_bound); slot_value = (sym d.1, omega arith) }

pub returns : goal.returns
returns c =
    let d = hook_head c.args.forest.table.now c.args.k (sym c.namer_of-on_right.ensures.0 ∙ c.if-on_right-ne0.false)
    (sym c.namer_of-on_left.ensures.0 ∙ c.if-on_left-ne0.false) (c.if-k-left.false ∙ c.left.ensures.0) in
    record { holder_value = (sym d.0, (records_bounds _ c.args.forest.listed.accepted).0); slot_value = (sym d.1, omega arith) }

-- `cut` meets its contract.
use mathlib.Core.Path.{sym, ◌∙◌}
use Rattle.records.proofs.Zeros.{blank}
use Rattle.cutting.proofs.Places.{leaf_inside}
use Rattle.cutting.proofs.Answering.{cut_fault, cut_no_leaf, cut_done}
use Rattle.cutting.proofs.cut.Goals as goal

pub examine-requires : goal.examine-requires
examine-requires c = record { blank = blank }

pub returns-in_err-count : goal.returns-in_err-count
returns-in_err-count c =
    let r = cut_fault _ c.args.node _ _ c.from_residual.ensures.1 c.in_err-count.ensures.refusal in
    record { value = r.0; table_after = r.1 }

pub returns-then-no_leaf : goal.returns-then-no_leaf
returns-then-no_leaf c =
    let r = cut_no_leaf _ _ (sym c.in_ok-count.ensures.refusal) (sym c.no_leaf.ensures ∙ c.if-no_leaf.true) in
    record { value = r.0; table_after = r.1 }

pub cut_leaf-requires-clause-k_bound : goal.cut_leaf-requires-clause-k_bound
cut_leaf-requires-clause-k_bound c =
    rw c.from.ensures (leaf_inside _ _ (sym c.in_ok-count.ensures.refusal) (sym c.no_leaf.ensures ∙ c.if-no_leaf.false))

pub returns : goal.returns
returns c =
    let r = cut_done _ _ _ (sym c.in_ok-count.ensures.refusal) (sym c.no_leaf.ensures ∙ c.if-no_leaf.false) (rw (sym c.from.ensures) c.cut_leaf.ensures) in
    record { value = r.0; table_after = r.1 }

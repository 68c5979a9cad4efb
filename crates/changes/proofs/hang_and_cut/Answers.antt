-- `hang_and_cut` meets its contract.
use native.Mathlib.Omega.{arith}
use Rattle.table.specs.Writing.{Bytes}
use Rattle.changes.proofs.Running.{refused, unhung, undone}
use Rattle.changes.proofs.hang_and_cut.Goals as goal

pub returns-in_err-leaf : goal.returns-in_err-leaf
returns-in_err-leaf c = record {
  value = refused _ _ _ c.args.tag _ _ c.from_residual.ensures.1 c.in_err-leaf.ensures.result_value;
  table_unchanged = unhung _ _ _ _ _ _ c.from_residual.ensures.1 c.in_err-leaf.ensures.result_value _ c.hang.ensures.table_after;
}

pub returns : goal.returns
returns c =
    let b : Bytes c.args.table.now = record { byte = λ i. omega (arith, (c.slice_known-1.given i).fits) } in
    let r = undone _ _ _ c.args.tag _ c.hang.ensures.table_after _ _ _ c.in_ok-leaf.ensures.result_value b (omega (arith, c.ranges.tag.fits))
    c.cut.ensures.value c.cut.ensures.table_after in
    record { value = r.0; table_unchanged = r.1 }

-- `in_order`: the columns, or the sign of the cross product. Rests on Turning.
use mathlib.Core.Path.{refl, ◌∙◌}
use mir.Syntax.{w64}
use borrow.Author.Tests.{lt-ltb, le-ltb}
use Rattle.segment.proofs.Answers.{holds, fails, answer, and_skip, and_stop}
use Rattle.segment.proofs.Range.{given}
use Rattle.verdict.proofs.Turning.{by_columns, by_product}
use Rattle.verdict.proofs.order.in_order.Goals as goal

pub returns-then-a-p : goal.returns-then-a-p
returns-then-a-p c =
    answer _ (and_skip (lt-ltb _ _ c.if-a-p.true) refl) (by_columns (holds c.if-both_level.true c.both_level.ensures))

pub returns-else-a-p : goal.returns-else-a-p
returns-else-a-p c =
    let f = le-ltb _ _ c.if-a-p.false in
    answer _ (f ∙ and_stop _ f refl) (by_columns (holds c.if-both_level.true c.both_level.ensures))

pub returns : goal.returns
returns c = by_product (given w64 c.cross.ensures c.cross.type_inv) (fails c.if-both_level.false c.both_level.ensures)

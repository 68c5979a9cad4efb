-- `check_shape` answers causes 1 and 2.
use mathlib.Core.Path.{sym, ◌∙◌}
use Rattle.records.proofs.Form.{tag_given, well_formed}
use borrow.Author.Tests.{eq-eqb, ne_eqb, lt-ltb}
use Rattle.table.specs.Refusal.{bad_length}
use Rattle.records.proofs.check_shape.Goals as goal
use Rattle.records.proofs.check_shape.Goals.{then-bytes-eq0-via-then-bytes-eq0, then-bytes-eq0-via-else-bytes-eq0+then-bytes-ne0}
use Rattle.records.proofs.check_shape.Goals.{then-bytes-eq0-via-else-bytes-eq0+else-bytes-ne0+then-bytes-gt32776}

pub returns-then-bytes-eq0 : goal.returns-then-bytes-eq0
unfolding bad_length
returns-then-bytes-eq0 c = elim c.then-bytes-eq0.branch [
  | then-bytes-eq0-via-then-bytes-eq0 w ↦ simp (eq-eqb _ _ w.if-bytes-eq0.true)
  | then-bytes-eq0-via-else-bytes-eq0+then-bytes-ne0 w ↦ simp (ne_eqb _ _ w.if-bytes-eq0.false, ne_eqb _ _ w.if-bytes-ne0.true)
  | then-bytes-eq0-via-else-bytes-eq0+else-bytes-ne0+then-bytes-gt32776 w ↦
      simp (ne_eqb _ _ w.if-bytes-eq0.false, eq-eqb _ _ w.if-bytes-ne0.false, lt-ltb _ _ w.if-bytes-gt32776.true)
]

pub returns-then-tag-ne0 : goal.returns-then-tag-ne0
returns-then-tag-ne0 c =
    tag_given _ c.if-bytes-eq0.false c.if-bytes-ne0.false c.if-bytes-gt32776.false (λ e. c.if-tag-ne0.true (c.tag.ensures.0 ∙ e))

pub returns : goal.returns
returns c =
    well_formed _ c.if-bytes-eq0.false c.if-bytes-ne0.false c.if-bytes-gt32776.false (sym c.tag.ensures.0 ∙ c.if-tag-ne0.false)

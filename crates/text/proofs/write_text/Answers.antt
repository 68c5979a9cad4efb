-- `text::write_text` meets its contract. Assumes nothing.
use mathlib.Core.Path.{refl, ap, ◌∙◌}
use lib.ListN.{length}
use native.Mathlib.Omega.{arith}
use Rattle.std.proofs.Common.{rules}
use Rattle.table.specs.Refusal.{refusal}
use Rattle.text.specs.Text.{text_within}
use Rattle.text.proofs.Whole.{Written, whole, text_none, text_planned, text_told, planned}
use Rattle.text.proofs.write_text.Goals as goal
use Rattle.text.proofs.write_text.Goals.{in-None, in-Some}

pub returns-then-out-lt-ROOM : goal.returns-then-out-lt-ROOM
returns-then-out-lt-ROOM c = record {
  value = rw (text_none (length c.args.out.now) c.args.table.now c.if-out-lt-ROOM.true) (refl);
  out_after = rw (text_none (length c.args.out.now) c.args.table.now c.if-out-lt-ROOM.true) (refl);
}

pub put_plan-requires : goal.put_plan-requires
put_plan-requires c =
    let h = planned c.args.table.now _ c.in-None.is c.draw-drawn.ensures.0 in
    record {
      placements_value = ap (refusal _) c.draw-drawn.auto.placements ∙ h.0;
      nodes_value = h.1;
      room = omega (arith, c.if-out-lt-ROOM.false, ap length c.new-writer.ensures.buffer);
    }

pub returns : goal.returns
returns c =
    let n = length c.args.out.now in
    let t = c.args.table.now in
    let r : Written (text_within n t) c.new-writer.result c.match-drawn.writer = elim c.match-drawn.branch [
      | in-None w ↦ rw w.writer-is (whole c.new-writer.ensures.place
          (text_planned n t c.if-out-lt-ROOM.false _ w.in-None.is c.draw-drawn.ensures.0 c.draw-drawn.ensures.1)
          w.put_plan.ensures.put w.put_plan.ensures.upper_bound)
      | in-Some w ↦ rw w.writer-is (whole c.new-writer.ensures.place (text_told n t c.if-out-lt-ROOM.false _ _ w.in-Some.is c.draw-drawn.ensures.0)
          w.put_refusal.ensures.put w.put_refusal.ensures.upper_bound)
    ] in
    record { value = r.place; out_after = search rules }

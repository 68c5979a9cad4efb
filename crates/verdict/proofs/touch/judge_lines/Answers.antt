-- `judge_lines`: the lines are sorted, and the conditions do not depend on their order. Rests on Judged.
use mathlib.Core.Path.{refl}
use mathlib.Core.Logic.{inl, inr}
use Rattle.sort.proofs.Neighbours.{ascending_length}
use Rattle.segment.proofs.Answers.{holds, fails}
use Rattle.verdict.proofs.Judged.{first_moved, worst_first}
use Rattle.verdict.proofs.touch.judge_lines.Goals as goal

pub same_end-requires : goal.same_end-requires
same_end-requires c = ascending_length c.sort.auto.keys c.sort.ensures.ascends

pub returns-then-same_end : goal.returns-then-same_end
returns-then-same_end c = let r = c.sort in
    first_moved r.ensures.moved r.auto.keys (inl (holds c.if-same_end.true c.same_end.ensures, refl))

pub returns-then-rises : goal.returns-then-rises
returns-then-rises c =
    let r = c.sort in
    first_moved r.ensures.moved r.auto.keys (inr (
      fails c.if-same_end.false c.same_end.ensures,
      inl (holds c.if-rises.true c.rises.ensures, refl),
    ))

pub returns : goal.returns
returns c =
    let r = c.sort in
    first_moved r.ensures.moved r.auto.keys (worst_first c.worst_meeting.result (fails c.if-same_end.false c.same_end.ensures)
    (fails c.if-rises.false c.rises.ensures) c.worst_meeting.ensures c.fault_of.ensures)

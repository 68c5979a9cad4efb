-- `against`: by the common end, or without one.
use borrow.Author.Rules.{rules}
use Rattle.segment.proofs.Alike.{common_QS}
use Rattle.segment.proofs.FourKinds.{alike_kind}
use Rattle.sweep.proofs.meeting.against.Goals as goal

pub returns-then-eq-2 : goal.returns-then-eq-2
returns-then-eq-2 c = alike_kind c.compare_joined-then-eq-2.result (common_QS (search rules)) c.compare_joined-then-eq-2.ensures

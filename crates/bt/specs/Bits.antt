-- Answers in one number, and a point in two floats that the caller lends, for languages without a struct or an enum of ours.
use Rattle.std.specs.Prelude.{◌≡◌, cond, List, ◌++◌, ℕ, ◌+◌, ◌*◌, ◌^◌, leb, length, get_or, drop, Float}
use Rattle.segment.specs.declared.Point.{Point}
use Rattle.segment.specs.declared.meeting.Meeting.{Meeting}
use Rattle.segment.specs.declared.meeting.Meeting.TheVariants.{Separate, SharedEnd, Crossing, Touching}
use Rattle.segment.specs.Meeting.{MeetSo}
use Rattle.table.specs.Said.{Said}
use Rattle.drawing.specs.Answer.{Drawn}

-- The drawer's: the refusal in bits 0 to 15, the nodes in bits 16 to 31, the width in bits 32 to 47, the height in bits 48 to 63.
abbrev pub drawn_bits : Drawn → ℕ
drawn_bits d = d.refusal + 2 ^ 16 * d.plan.nodes + 2 ^ 32 * d.plan.width + 2 ^ 48 * d.plan.height

-- What a later call says: the number of the refusal in bits 0 to 15, the first three values in bits 16 to 31, 32 to 47 and 48 to 63; a refusal has none.
abbrev pub said_bits : Said → ℕ
said_bits s = s.number + 2 ^ 16 * get_or s.values 0 0 + 2 ^ 32 * get_or s.values 1 0 + 2 ^ 48 * get_or s.values 2 0

-- What is lent for a point, afterwards: the point in front, where there is room for two floats; where there is less, or no point, all is kept.
unfoldable pub overwritten : List Float → List Float → List Float
overwritten point lent = cond (leb 2 (length lent)) (point ++ drop (length point) lent) lent

-- The comparison's: 0 separate, 1 at a shared end only, 2 crossing, 3 touching.
abbrev pub meeting_number : Meeting → ℕ
meeting_number Separate = 0
meeting_number SharedEnd = 1
meeting_number Crossing = 2
meeting_number Touching = 3

-- n is the number of the kind in which the lines from P to Q and from R to S meet; there is one (`SomeMeeting`, `OneMeeting`, promises).
pub record Compared (P Q R S : Point) (n : ℕ) : Type 0 where
  pub kind : Meeting
  pub so : MeetSo kind P Q R S
  pub number : n ≡ meeting_number kind

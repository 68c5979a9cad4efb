-- How two lines meet, by the points of their ends (document 02, Paper 7, "Comparing two lines"): each kind by its meaning in whole numbers. Definitions
-- only; for all natural coordinates.
use Rattle.std.specs.Prelude.{◌≡◌, ℕ, ◌<◌, pos, ◌-ℤ◌, ◌*ℤ◌}
use Rattle.segment.specs.declared.Point.{Point}
use Rattle.segment.specs.declared.meeting.Meeting.{Meeting}
use Rattle.segment.specs.declared.meeting.Meeting.TheVariants.{Separate, SharedEnd, Crossing, Touching}
use Rattle.segment.specs.Segment.{On, Share, Clash}

-- "meeting only at a shared box": the lines share a point, and none other than one that both end at
pub record MeetsAtEnd (P Q R S : Point) : Type 0 where
  pub share : Share P Q R S
  pub no_clash : Clash P Q R S → ⊥

-- "inside": a point of the line from P to Q whose s is neither 0 nor q (on a line of one point that is its end too)
pub record Inside (P Q : Point) (q x y : ℕ) : Type 0 where
  pub on : On P Q q x y
  pub after_start : 0 < on.s
  pub before_end : on.s < q

-- Parallel, which for lines that share a point is "running along each other": a·d = b·c, for Q at column difference a and row difference b from P, and S at
-- c and d from R. A line of one point is parallel to every line.
abbrev pub Parallel : Point → Point → Point → Point → Type 0
Parallel P Q R S = (pos Q.column -ℤ pos P.column) *ℤ (pos S.row -ℤ pos R.row) ≡
    (pos Q.row -ℤ pos P.row) *ℤ (pos S.column -ℤ pos R.column)

-- "crossing at one point inside both without running along each other"
pub record Crosses (P Q R S : Point) : Type 0 where
  pub q : ℕ
  pub x : ℕ
  pub y : ℕ
  pub inside_PQ : Inside P Q q x y
  pub inside_RS : Inside R S q x y
  pub not_parallel : Parallel P Q R S → ⊥

-- "and any other touch"
pub record Touches (P Q R S : Point) : Type 0 where
  pub share : Share P Q R S
  pub not_at_end : MeetsAtEnd P Q R S → ⊥
  pub not_crossing : Crosses P Q R S → ⊥

-- The lines from P to Q and from R to S meet so.
abbrev pub MeetSo : Meeting → Point → Point → Point → Point → Type 0
MeetSo Separate P Q R S = Share P Q R S → ⊥
MeetSo SharedEnd P Q R S = MeetsAtEnd P Q R S
MeetSo Crossing P Q R S = Crosses P Q R S
MeetSo Touching P Q R S = Touches P Q R S

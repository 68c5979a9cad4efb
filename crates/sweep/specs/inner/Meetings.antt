-- Meetings of two lines by how bad they are, and the worst meeting of two lines of a list.
use Rattle.std.specs.Prelude.{◌≡◌, ◌⊎◌, List, ℕ, ◌≤◌, ◌<◌, length, get_or}
use Rattle.segment.specs.declared.Point.{Point}
use Rattle.segment.specs.declared.meeting.Meeting.{Meeting}
use Rattle.segment.specs.declared.meeting.Meeting.TheVariants.{Separate, SharedEnd, Crossing, Touching}
use Rattle.segment.specs.Meeting.{MeetSo}
use Rattle.sort.specs.inner.Order.{Below, Pairs}
use Rattle.line.specs.inner.Line.{start_of, end_of}

-- How bad a meeting is.
abbrev pub grade : Meeting → ℕ
grade Separate = 0
grade SharedEnd = 0
grade Crossing = 2
grade Touching = 1

-- r is the worse of a and of how the lines from P to Q and from R to S meet.
pub record WorseWith (a : Meeting) (P Q R S : Point) (r : Meeting) : Type 0 where
  pub met : Meeting
  pub so : MeetSo met P Q R S
  pub either : (r ≡ a) ⊎ (r ≡ met)
  pub first : grade a ≤ grade r
  pub second : grade met ≤ grade r

-- The lines x and y, as numbers, meet so; and no worse than m.
abbrev pub Met : Meeting → ℕ → ℕ → Type 0
Met m x y = MeetSo m (start_of x) (end_of x) (start_of y) (end_of y)

pub record NoWorse (m : Meeting) (x y : ℕ) : Type 0 where
  pub no_worse : (k : Meeting) → Met k x y → grade k ≤ grade m

-- m is the worst of the meeting w and of those of line i with the lines from j on that stand before it: it is w, or one of them meets line i so, and
-- neither w nor any of them is worse.
pub record WorstFrom (j i : ℕ) (l : List ℕ) (w m : Meeting) : Type 0 where
  pub found : (m ≡ w) ⊎ Below i (λ a. Met m (get_or l a 0) (get_or l i 0))
  pub no_better : grade w ≤ grade m
  pub none_worse : (a : ℕ) → j ≤ a → a < i → NoWorse m (get_or l a 0) (get_or l i 0)

-- m is the worst meeting of two of the first n lines: it is no fault, or two of them meet so, and none worse.
pub record Worst (n : ℕ) (l : List ℕ) (m : Meeting) : Type 0 where
  pub found : (grade m ≡ 0) ⊎ Pairs n (λ i j. Met m (get_or l i 0) (get_or l j 0))
  pub none_worse : (i j : ℕ) → i < j → j < n → NoWorse m (get_or l i 0) (get_or l j 0)

-- The worst meeting of two of n lines of a is that of two of b.
pub record Seen (n : ℕ) (a b : List ℕ) : Type 0 where
  pub worst : (m : Meeting) → Worst n b m → Worst n a m

-- There are no more lines than the check takes, and the lists to work in are as long.
abbrev pub Room : List ℕ → List ℕ → List ℕ → Type 0
Room lines scratch abreast = (length lines ≤ 4097) × (length lines ≤ length scratch) × (length lines ≤ length abreast)

-- Lines seen with columns and rows exchanged or not, each with its ends in the order of their numbers.
use Rattle.std.specs.Prelude.{◌≡◌, ◌⊎◌, Bool, true, false, List, ℕ, ◌≤◌, ◌<◌, get_or}
use Rattle.segment.specs.declared.Point.{Point}
use Rattle.segment.specs.inner.Test.{transpose}
use Rattle.sort.specs.inner.Order.{Rearranged, Ascending}
use Rattle.line.specs.inner.Line.{start_of, end_of, first, last, Onward}

abbrev pub view : Bool → Point → Point
view true P = transpose P
view false P = P

-- The line r has the ends P and Q, in one order or the other, and does not go back.
pub record Joined (P Q : Point) (r : ℕ) : Type 0 where
  pub ends : ((start_of r ≡ P) × (end_of r ≡ Q)) ⊎ ((start_of r ≡ Q) × (end_of r ≡ P))
  pub onward : first r ≤ last r

-- The first n lines of b are those of a, seen so.
pub record Arranged (across : Bool) (n : ℕ) (a b : List ℕ) : Type 0 where
  pub line : (i : ℕ) → i < n → Joined (view across (start_of (get_or a i 0))) (view across (end_of (get_or a i 0))) (get_or b i 0)

-- The lines of b are those of a, seen along one axis or the other, and sorted by their ends.
pub record Settled (n : ℕ) (a b : List ℕ) : Type 0 where
  pub across : Bool
  pub seen : List ℕ
  pub arranged : Arranged across n a seen
  pub moved : Rearranged n seen b
  pub onward : Onward n b
  pub ascends : Ascending last n b

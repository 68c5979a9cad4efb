-- What the steps of a check say to each other. No promise to a caller is here.
use Rattle.std.specs.Prelude.{◌≡◌, ◌≢◌, List, [], ◌∷◌, ℕ, ◌*◌, ◌≤◌, ◌<◌, T, length, get_or, take}
use Rattle.segment.specs.declared.Point.{Point}
use Rattle.segment.specs.declared.meeting.Meeting.{Meeting}
use Rattle.segment.specs.declared.meeting.Meeting.TheVariants.{Separate, SharedEnd, Crossing, Touching}
use Rattle.segment.specs.Segment.{Clash}
use Rattle.segment.specs.Meeting.{Crosses}
use Rattle.sort.specs.inner.Order.{Below, Pairs}
use Rattle.line.specs.inner.Line.{start_of, end_of, last}
use Rattle.table.specs.Lists.{member}
use Rattle.table.specs.Table.{Side, records, left_of, right_of, link_of, Line}
use Rattle.table.specs.Trees.{roots}
use Rattle.records.specs.inner.Reading.{Nodes}
use Rattle.placements.specs.Placements.{point_of}
use Rattle.verdict.specs.Conditions.{InOrder}
use Rattle.verdict.specs.Verdict.{Condition, numbered}

-- The point of the node at place i of a list of nodes.
abbrev pub node_at : List ℕ → List ℕ → ℕ → Point
node_at p nodes i = point_of p (get_or nodes i 0)

-- The first n numbers of a list are the nodes of an accepted table.
pub record FirstNodes (t : List ℕ) (n : ℕ) (list : List ℕ) : Type 0 where
  pub long : n ≤ length list
  pub listed : Nodes t (take n list)

-- The first n lines go to the first n nodes of a list: to a child from its parent, to a root from itself.
pub record FirstLines (t p : List ℕ) (n : ℕ) (nodes l : List ℕ) : Type 0 where
  pub ends : (i : ℕ) → i < n → end_of (get_or l i 0) ≡ node_at p nodes i
  pub from_parent : (i k : ℕ) (s : Side) → i < n → Line t k s (get_or nodes i 0) → start_of (get_or l i 0) ≡ point_of p k
  pub from_itself : (i : ℕ) → i < n → T (member (get_or nodes i 0) (roots t)) → start_of (get_or l i 0) ≡ node_at p nodes i

-- There is a line for each node of a list, and it goes to it: to a child from its parent, to a root from itself.
pub record LinesOf (t p nodes l : List ℕ) : Type 0 where
  pub long : length l ≡ length nodes
  pub ends : (i : ℕ) → i < length nodes → end_of (get_or l i 0) ≡ node_at p nodes i
  pub from_parent : (i k : ℕ) (s : Side) → i < length nodes → Line t k s (get_or nodes i 0) → start_of (get_or l i 0) ≡ point_of p k
  pub from_itself : (i : ℕ) → i < length nodes → T (member (get_or nodes i 0) (roots t)) → start_of (get_or l i 0) ≡ node_at p nodes i

-- 22, of one line: it ends above its start
abbrev pub Rises : ℕ → Type 0
Rises k = (end_of k).row < (start_of k).row

-- Two of the first n lines of which R holds, by their ends.
abbrev pub Two : (Point → Point → Point → Point → Type 0) → ℕ → List ℕ → Type 0
Two R n l = Pairs n (λ i j. R (start_of (get_or l i 0)) (end_of (get_or l i 0)) (start_of (get_or l j 0)) (end_of (get_or l j 0)))

-- 21, 22, 23 and 25, of the first n lines
abbrev pub line_conditions : ℕ → List ℕ → List Condition
line_conditions n l =
    numbered 21 (Pairs n (λ i j. last (get_or l i 0) ≡ last (get_or l j 0))) ∷
    numbered 22 (Below n (λ i. Rises (get_or l i 0))) ∷
    numbered 23 (Two Crosses n l) ∷
    numbered 25 (Two Clash n l) ∷ []

-- The last two of them, or 0, by the worst meeting of two lines.
abbrev pub worst_verdict : Meeting → ℕ
worst_verdict Separate = 0
worst_verdict SharedEnd = 0
worst_verdict Crossing = 23
worst_verdict Touching = 25

-- Record k and its links are records, and all records have their places among the placements.
pub record Placeable (t p : List ℕ) (k : ℕ) : Type 0 where
  pub inside : k < records t
  pub links : (s : Side) → link_of t s k < records t
  pub places : 2 * records t ≤ length p

-- 24, of one node: it has two children, and they are not in order
abbrev pub Turned : List ℕ → List ℕ → ℕ → Type 0
Turned t p k = (left_of t k ≢ 0) × ((right_of t k ≢ 0) × (InOrder (point_of p k) (point_of p (left_of t k)) (point_of p (right_of t k)) → ⊥))

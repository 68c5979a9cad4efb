-- The lines abreast at a level of a sweep, from right to left. It goes from the greatest number down: a line comes in at its end and goes out at its start.
use Rattle.std.specs.Prelude.{◌≡◌, List, ℕ, ◌+◌, ◌-◌, ◌*◌, ◌≤◌, ◌<◌, length, get_or}
use Rattle.segment.specs.Segment.{Clash}
use Rattle.sort.specs.inner.Order.{Below}
use Rattle.line.specs.inner.Line.{start_of, end_of, first, last}
use Rattle.neighbours.specs.inner.Side.{Next}

-- The lines x and y clash.
abbrev pub Clashes : ℕ → ℕ → Type 0
Clashes x y = Clash (start_of x) (end_of x) (start_of y) (end_of y)

-- No two of the first n lines do.
pub record NoClash (n : ℕ) (l : List ℕ) : Type 0 where
  pub none : (j k : ℕ) → j < k → k < n → Clashes (get_or l j 0) (get_or l k 0) → ⊥

-- The first m elements of a are places in a list of n lines.
pub record Places (n m : ℕ) (a : List ℕ) : Type 0 where
  pub room : m ≤ length a
  pub below : (p : ℕ) → p < m → get_or a p 0 < n

-- The line whose place stands at p.
abbrev pub at : List ℕ → List ℕ → ℕ → ℕ
at l a p = get_or l (get_or a p 0) 0

-- The line before i, if there is one, ends at t or below.
pub record EndsBy (i t : ℕ) (l : List ℕ) : Type 0 where
  pub by : 0 < i → last (get_or l (i - 1) 0) ≤ t

-- The lines from p to before e start at the level t.
pub record Starting (p e t : ℕ) (l a : List ℕ) : Type 0 where
  pub onward : p ≤ e
  pub start : (s : ℕ) → p ≤ s → s < e → first (at l a s) ≡ t

-- What the lines x and y share beside common ends is below the level t.
pub record Clear (t x y : ℕ) : Type 0 where
  pub clear : (c : Clashes x y) → 65536 * c.share.y + c.share.x < c.share.q * t

-- Of n lines those from i on came in, each at the level t or above; a has the places of m of them, each to the right of the next, and of all that start
-- below t. If none of these starts above t, no two that came in clash at t or above.
pub record Abreast (n i t m : ℕ) (l a : List ℕ) : Type 0 where
  pub from : (p : ℕ) → p < m → i ≤ get_or a p 0
  pub below : (p : ℕ) → p < m → get_or a p 0 < n
  pub come : (p : ℕ) → p < m → t ≤ last (at l a p)
  pub next : (p : ℕ) → p + 1 < m → Next (at l a (p + 1)) (at l a p)
  pub all : (j : ℕ) → i ≤ j → j < n → first (get_or l j 0) < t → Below m (λ p. get_or a p 0 ≡ j)
  pub clear : ((p : ℕ) → p < m → first (at l a p) ≤ t) → (j k : ℕ) → i ≤ j → j < k → k < n → Clear t (get_or l j 0) (get_or l k 0)

-- From any level, not below t, down to t: lines abreast there, in a, are abreast here, in b.
pub record Downto (n i i' t m m' : ℕ) (l a b : List ℕ) : Type 0 where
  pub down : (s : ℕ) → t ≤ s → Abreast n i s m l a → Abreast n i' t m' l b

-- b is a, of whose elements the first m count, without those from p to before e; and with d elements, none or k, in their place.
pub record Replaced (d m p e k : ℕ) (a b : List ℕ) : Type 0 where
  pub before : (s : ℕ) → s < p → get_or b s 0 ≡ get_or a s 0
  pub here : 0 < d → get_or b p 0 ≡ k
  pub after : (s : ℕ) → e + s < m → get_or b (p + d + s) 0 ≡ get_or a (e + s) 0

-- Points of a segment, shared points and the cross product, as document 01 puts them ("What the sheet check says"). Definitions only; for all natural
-- coordinates.
use Rattle.std.specs.Prelude.{◌≡◌, ◌⊎◌, ℕ, ◌+◌, ◌*◌, ◌-◌, ◌≤◌, ℤ, pos, ◌-ℤ◌, ◌*ℤ◌}
use Rattle.segment.specs.declared.Point.{Point}

-- A point by its column and row.
abbrev pub at : ℕ → ℕ → Point
at c r = record { column = c; row = r }

-- "whole numbers q .. and s .. from 0 to q, with (q − s)·P + s·Q = ..": (x, y) is that sum, q times a point of the line from P to Q; s is at most q,
-- so that q − s cuts nothing off
pub record On (P Q : Point) (q x y : ℕ) : Type 0 where
  pub s : ℕ
  pub s≤q : s ≤ q
  pub at_column : x ≡ (q - s) * P.column + s * Q.column
  pub at_row : y ≡ (q - s) * P.row + s * Q.row

-- "The lines from P to Q and from R to S share a point": q is at least 1, and (x, y) is the common sum
pub record Share (P Q R S : Point) : Type 0 where
  pub q : ℕ
  pub x : ℕ
  pub y : ℕ
  pub q≥1 : 1 ≤ q
  pub on_PQ : On P Q q x y
  pub on_RS : On R S q x y

-- "The point is a box B if that sum is q·B"
pub record Is (B : Point) (q x y : ℕ) : Type 0 where
  pub in_column : x ≡ q * B.column
  pub in_row : y ≡ q * B.row

-- "B lies on the line from P to Q if (q − s)·P + s·Q = q·B for some such q and s"
pub record Lies (B P Q : Point) : Type 0 where
  pub q : ℕ
  pub q≥1 : 1 ≤ q
  pub on : On P Q q (q * B.column) (q * B.row)

-- 24: a·d − b·c, for A at column difference a and row difference b from P, and B at c and d; differences signed, products exact
unfoldable pub cross : Point → Point → Point → ℤ
cross P A B = (pos A.column -ℤ pos P.column) *ℤ (pos B.row -ℤ pos P.row) -ℤ (pos A.row -ℤ pos P.row) *ℤ (pos B.column -ℤ pos P.column)

-- "two different lines share a point other than a box that both end at", for two lines by the points of their ends
pub record Clash (P Q R S : Point) : Type 0 where
  pub share : Share P Q R S
  pub no_common_end : (E : Point) → (E ≡ P) ⊎ (E ≡ Q) → (E ≡ R) ⊎ (E ≡ S) → Is E share.q share.x share.y → ⊥

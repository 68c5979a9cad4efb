-- A point of a segment by the weights of its two ends, and the points at an end. No test and no cross product enters.
use mathlib.Core.Path.{◌≡◌, ap}
use Prim.Native.Nat.{ℕ, ◌+◌, ◌*◌, ◌-◌}
use native.Mathlib.Omega.{arith}
use Rattle.segment.specs.declared.Point.{Point}
use Rattle.segment.specs.Segment.{On, Is}

-- `On` with the two weights u = q - s and v = s
pub record Weights (A B : Point) (q x y : ℕ) : Type 0 where
  pub u : ℕ
  pub v : ℕ
  pub sum : u + v ≡ q
  pub in_column : x ≡ u * A.column + v * B.column
  pub in_row : y ≡ u * A.row + v * B.row

abbrev pub weights : {A B : Point} {q x y : ℕ} → On A B q x y → Weights A B q x y
weights {q} o = record { u = q - o.s; v = o.s; sum = omega (arith, o.s≤q); in_column = o.at_column; in_row = o.at_row }

abbrev pub on : {A B : Point} {q x y : ℕ} → Weights A B q x y → On A B q x y
on {q} w = let e : w.u ≡ q - w.v = omega arith in record { s = w.v; s≤q = omega arith; at_column = rw e at w.in_column; at_row = rw e at w.in_row }

abbrev pub turned : {A B : Point} {q x y : ℕ} → Weights A B q x y → Weights B A q x y
turned w = record { u = w.v; v = w.u; sum = omega (arith, w.sum); in_column = omega (arith, w.in_column); in_row = omega (arith, w.in_row) }

pub on_turn : {A B : Point} {q x y : ℕ} → On A B q x y → On B A q x y
on_turn o = on (turned (weights o))

-- q times a number, by the weights
pub weighed : {A B : Point} {q x y : ℕ} (w : Weights A B q x y) (n : ℕ) → w.u * n + w.v * n ≡ q * n
weighed w n = omega (arith, ap (λ (i : ℕ). i * n) w.sum)

-- the end A of A B, times q
pub at_start : (A B : Point) (q : ℕ) → On A B q (q * A.column) (q * A.row)
at_start A B q = on (record { u = q; v = 0; sum = omega arith; in_column = omega arith; in_row = omega arith })

-- without weight at B the point is A
pub at_end : {A B : Point} {q x y : ℕ} (w : Weights A B q x y) → w.v ≡ 0 → Is A q x y
at_end {A} {B} w e = record {
  in_column = omega (arith, weighed w A.column, ap (λ (n : ℕ). n * A.column) e, ap (λ (n : ℕ). n * B.column) e);
  in_row = omega (arith, weighed w A.row, ap (λ (n : ℕ). n * A.row) e, ap (λ (n : ℕ). n * B.row) e);
}

-- a point of a segment of one point
pub at_point : {A B : Point} {q x y : ℕ} (w : Weights A B q x y) → B ≡ A → Is A q x y
at_point {A} w e = record {
  in_column = omega (arith, weighed w A.column, ap (λ (X : Point). w.v * X.column) e);
  in_row = omega (arith, weighed w A.row, ap (λ (X : Point). w.v * X.row) e);
}

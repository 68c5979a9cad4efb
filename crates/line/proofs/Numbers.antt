-- A line as a number: its parts are its points, and its halves their numbers.
use mathlib.Core.Path.{◌≡◌, ◌∙◌}
use Prim.Native.Nat.{ℕ, ◌+◌, ◌*◌, ◌<◌, ◌/◌, ◌%◌}
use native.Mathlib.Omega.{arith}
use Rattle.segment.specs.declared.Point.{Point}
use Rattle.segment.specs.Segment.{at}
use Rattle.segment.specs.inner.Test.{number}
use Rattle.segment.proofs.Clashing.{point}
use Rattle.line.specs.inner.Line.{start_of, end_of, first, last}

-- The four parts of a number that is made of four of sixteen bits.
module _ (a b c d n m : ℕ) (f : n ≡ 65536 * a + b) (g : m ≡ 65536 * c + d) (y : b < 65536) (z : c < 65536) (w : d < 65536) where
  end_row : (n * 4294967296 + m) / 281474976710656 ≡ a
  end_row = omega arith

  end_column : (n * 4294967296 + m) / 4294967296 % 65536 ≡ b
  end_column = omega arith

  start_row : (n * 4294967296 + m) / 65536 % 65536 ≡ c
  start_row = omega arith

  start_column : (n * 4294967296 + m) % 65536 ≡ d
  start_column = omega arith

pub made_of : (P Q : Point) (n m : ℕ) → n ≡ number 65536 Q → m ≡ number 65536 P → P.row < 65536 → P.column < 65536 → Q.column < 65536 →
    (start_of (n * 4294967296 + m) ≡ P) × (end_of (n * 4294967296 + m) ≡ Q)
unfolding start_of end_of
made_of P Q n m f g z w y = (
  point (start_column Q.row Q.column P.row P.column n m f g y z w) (start_row Q.row Q.column P.row P.column n m f g y z w),
  point (end_column Q.row Q.column P.row P.column n m f g y z w) (end_row Q.row Q.column P.row P.column n m f g y z w),
)

pub number_first : (k : ℕ) → number 65536 (start_of k) ≡ first k
unfolding start_of
number_first k = omega arith

pub number_last : (k : ℕ) → number 65536 (end_of k) ≡ last k
unfolding end_of
number_last k = omega arith

-- A line's points, from their numbers.
pub start_numbered : (k : ℕ) {P : Point} → P ≡ at (first k % 65536) (first k / 65536) → P ≡ start_of k
unfolding start_of
start_numbered k e = e ∙ point (omega arith) (omega arith)

pub end_numbered : (k : ℕ) {P : Point} → P ≡ at (last k % 65536) (last k / 65536) → P ≡ end_of k
unfolding end_of
end_numbered k e = e ∙ point (omega arith) (omega arith)

pub start_fits : (k : ℕ) → (start_of k).column < 65536
unfolding start_of
start_fits k = omega arith

pub end_fits : (k : ℕ) → (end_of k).column < 65536
unfolding end_of
end_fits k = omega arith

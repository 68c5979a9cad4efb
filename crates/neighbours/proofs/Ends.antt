-- The points by which the numbers of a line's ends stand, for the proof of `side::beside`. Rests on nothing of the sweep.
use mathlib.Core.Path.{◌≡◌, subst₂}
use Prim.Native.Nat.{ℕ, ◌<◌}
use native.Mathlib.Omega.{arith}
use Rattle.segment.specs.declared.Point.{Point}
use Rattle.segment.proofs.Clashing.{point}
use Rattle.line.specs.inner.Line.{start_of, end_of, first, last}
use Rattle.neighbours.specs.inner.Side.{Beyond}

-- The first number of a line stands for its start, the last for its end.
pub start_first : (k : ℕ) → start_of (first k) ≡ start_of k
unfolding start_of
start_first k = point (omega arith) (omega arith)

pub start_last : (k : ℕ) → k < 18446744073709551616 → start_of (last k) ≡ end_of k
unfolding start_of end_of
start_last k h = point (omega arith) (omega arith)

pub beyond_at : {P Q R S A B C D : Point} → P ≡ A → Q ≡ B → R ≡ C → S ≡ D → Beyond P Q R S → Beyond A B C D
beyond_at {P} {Q} {R} {S} {A} {B} p q r s h = subst₂ (λ (X Y : Point). Beyond A B X Y) r s (subst₂ (λ (X Y : Point). Beyond X Y R S) p q h)

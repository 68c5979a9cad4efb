-- `exchange_point` exchanges column and row of a record.
use mathlib.Core.Path.{◌≡◌}
use mathlib.Core.List.{List}
use Prim.Native.Nat.{ℕ}
use Rattle.segment.specs.declared.Point.{Point}
use Rattle.placements.specs.Placements.{point_of, with_point}
use Rattle.mirror.specs.Exchanged.{exchange_point}
use Rattle.mirror.proofs.exchange_point.Goals as goal

-- The point that was read, written back with row and column exchanged.
written_back : (p q : List ℕ) (k a b : ℕ) {P : Point} → q ≡ with_point k a b p → a ≡ P.row → b ≡ P.column → P ≡ point_of p k → q ≡ exchange_point k p
unfolding exchange_point
written_back p q k a b e f g h = rw (e, f, g, h)

pub returns : goal.returns
returns c =
    written_back _ _ _ _ _ c.set_point.ensures c.from.ensures c.from-2.ensures c.point-old.ensures

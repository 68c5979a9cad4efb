-- Placements, by record: a point that is written at a record is read back (`pair_point`), the others are kept (`pair_other`), and placements with
-- the same points are the same (`same_points`).
use mathlib.Core.Path.{◌≡◌, ap, ap₂, ◌∙◌}
use mathlib.Core.List.{List}
use Prim.Native.Nat.{ℕ, ◌+◌, ◌*◌, ◌/◌, ◌<◌}
use native.Mathlib.Decide.{ℕ_discrete}
use native.Mathlib.Omega.{arith}
use lib.ListN.{length, get_or, set, length-set}
use lib.Seq.{get_or-set_same, get_or-set_other, ext_get_or}
use Rattle.segment.specs.declared.Point.{Point}
use Rattle.segment.specs.Segment.{at}
use Rattle.placements.specs.Placements.{point_of, with_point}

-- A point stored at a record's entries.
abbrev pub pair : List ℕ → ℕ → Point → List ℕ
pair p k P = with_point k P.column P.row p

pub pair_length : (p : List ℕ) (k : ℕ) (P : Point) → length (pair p k P) ≡ length p
pair_length p k P = simp length-set

pub pair_point : (p : List ℕ) (k : ℕ) (P : Point) → 2 * k + 1 < length p → point_of (pair p k P) k ≡ P
pair_point p k P room = ap₂ at
    (get_or-set_other (set p (2 * k) P.column) (2 * k + 1) (2 * k) P.row 0 (λ e. omega arith) ∙ get_or-set_same p (2 * k) P.column 0 (omega arith))
    (get_or-set_same (set p (2 * k) P.column) (2 * k + 1) P.row 0 (simp length-set room))

pub pair_other : (p : List ℕ) (k m : ℕ) (P : Point) → (m ≡ k → ⊥) → point_of (pair p k P) m ≡ point_of p m
pair_other p k m P n = ap₂ at
    (get_or-set_other (set p (2 * k) P.column) (2 * k + 1) (2 * m) P.row 0 (λ e. omega arith) ∙
    get_or-set_other p (2 * k) (2 * m) P.column 0 (λ e. n (omega arith)))
    (get_or-set_other (set p (2 * k) P.column) (2 * k + 1) (2 * m + 1) P.row 0 (λ e. n (omega arith)) ∙
    get_or-set_other p (2 * k) (2 * m + 1) P.column 0 (λ e. omega arith))

-- As many entries, and the same points: the same placements.
pub same_points : (a b : List ℕ) → length a ≡ length b → ((k : ℕ) → point_of a k ≡ point_of b k) → a ≡ b
same_points a b long same = ext_get_or 0 a b long (λ i h. entry i (ℕ_discrete i (2 * (i / 2))))
  where
    entry : (i : ℕ) → Dec (i ≡ 2 * (i / 2)) → get_or a i 0 ≡ get_or b i 0
    entry i (yes e) = rw e (ap (λ (P : Point). P.column) (same (i / 2)))
    entry i (no n) = let e : i ≡ 2 * (i / 2) + 1 = omega (arith, n) in rw e (ap (λ (P : Point). P.row) (same (i / 2)))

-- The laws of the exchanged placements: at each chained node column and row are exchanged (`points_exchanged`), elsewhere they are kept (`points_other`), and
-- twice exchanged they are as before (`points_twice`). Rests on Each and on the laws of entries.
use mathlib.Core.Path.{◌≡◌, refl, sym, ap, ◌∙◌}
use mathlib.Core.Bool.{Bool, true, false}
use mathlib.Core.List.{List}
use Prim.Native.Nat.{ℕ, ◌+◌, ◌*◌, ◌<◌}
use native.Mathlib.Omega.{arith}
use lib.Dec.{T}
use lib.ListN.{length, length-set}
use Rattle.segment.specs.inner.Test.{transpose}
use Rattle.placements.specs.Placements.{point_of}
use Rattle.placements.proofs.Points.{pair_point, pair_other, same_points}
use Rattle.table.specs.Lists.{member}
use Rattle.table.proofs.Lists.{Distinct, T_true, T_false}
use Rattle.mirror.specs.Exchanged.{exchange_point, each}
use Rattle.mirror.proofs.Each.{each_kept, each_length, each_once}

-- ---- one record

point_length : (k : ℕ) (p : List ℕ) → length (exchange_point k p) ≡ length p
unfolding exchange_point
point_length k p = simp length-set

point_here : (k : ℕ) (p : List ℕ) → 2 * k + 1 < length p → point_of (exchange_point k p) k ≡ transpose (point_of p k)
unfolding exchange_point
point_here k p = pair_point p k (transpose (point_of p k))

point_other : (k m : ℕ) (p : List ℕ) → (m ≡ k → ⊥) → point_of (exchange_point k p) m ≡ point_of p m
unfolding exchange_point
point_other k m p = pair_other p k m (transpose (point_of p k))

-- ---- each of the given records, none of which is given twice

pub points_long : (ks p : List ℕ) → length (each exchange_point ks p) ≡ length p
points_long = each_length exchange_point point_length

module _ (ks p : List ℕ) (k : ℕ) where
  pub points_other : (T (member k ks) → ⊥) → point_of (each exchange_point ks p) k ≡ point_of p k
  points_other n = each_kept exchange_point (λ l. point_of l k) ks p (λ m h l. point_other m k l (λ e. n (rw e h)))

  pub points_exchanged : Distinct ks → T (member k ks) → 2 * k + 1 < length p → point_of (each exchange_point ks p) k ≡ transpose (point_of p k)
  points_exchanged once h room = each_once exchange_point point_length (λ l. point_of l k) (λ l. transpose (point_of l k)) k (length p)
      (λ m n l. let e = point_other m k l (λ z. n (sym z)) in (e, ap transpose e)) (λ l e. point_here k l (omega (arith, room, e))) ks p once h refl

pub points_twice : (ks p : List ℕ) → Distinct ks → ((k : ℕ) → T (member k ks) → 2 * k + 1 < length p) → each exchange_point ks (each exchange_point ks p) ≡ p
points_twice ks p once room = same_points _ p (points_long ks _ ∙ points_long ks p) (λ k. go k (member k ks) refl)
  where
    q : List ℕ
    q = each exchange_point ks p

    go : (k : ℕ) (b : Bool) → member k ks ≡ b → point_of (each exchange_point ks q) k ≡ point_of p k
    go k true e =
        let m = (T_true (member k ks)).1 e in
        points_exchanged ks q k once m (rw (points_long ks p) (room k m)) ∙ ap transpose (points_exchanged ks p k once m (room k m))
    go k false e = let n = (T_false (member k ks)).1 e in points_other ks q k n ∙ points_other ks p k n

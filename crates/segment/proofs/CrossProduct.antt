-- The cross product over ℕ: `cross P A B` is `plus P A B - minus P A B`. Its sign, its linearity along a segment, and Cramer's rule.
use mathlib.Core.Path.{◌≡◌, ap, sym, ◌∙◌}
use mathlib.Core.Logic.{◌↔◌}
use Prim.Native.Nat.{ℕ, ◌+◌, ◌*◌, ◌<◌}
use native.Mathlib.Omega.{arith}
use lib.Dec.{T}
use lib.IntN.{pos}
use lib.Signed.{lt_z}
use Rattle.segment.specs.declared.Point.{Point}
use Rattle.segment.specs.Segment.{cross}
use Rattle.segment.proofs.Weights.{Weights}
use Rattle.segment.proofs.Difference.{Diff, diff_pos, diff_same, diff_sub, diff_mul, diff_negative}

abbrev pub plus : Point → Point → Point → ℕ
plus P A B = P.column * A.row + A.column * B.row + B.column * P.row

abbrev pub minus : Point → Point → Point → ℕ
minus P A B = P.row * A.column + A.row * B.column + B.row * P.column

pub cross_diff : (P A B : Point) → Diff (cross P A B) (plus P A B) (minus P A B)
unfolding cross
cross_diff P A B = diff_same _ (diff_sub (diff_mul _ _ (diff_pos A.column P.column) (diff_pos B.row P.row))
    (diff_mul _ _ (diff_pos A.row P.row) (diff_pos B.column P.column))) (omega arith)

pub cross_negative : (P A B : Point) → T (lt_z (cross P A B) (pos 0)) ↔ (plus P A B < minus P A B)
cross_negative P A B = (diff_negative _ (cross_diff P A B)).is

-- an affine sum at the point (x, y) / q, times q
affine : (k m n q x y u v p p' r r' : ℕ) → u + v ≡ q → x ≡ u * p + v * r → y ≡ u * p' + v * r' →
    u * (k + m * p + p' * n) + v * (k + m * r + r' * n) ≡ q * k + m * x + y * n
affine k m n q x y u v p p' r r' sum e e' = omega (arith, ap (λ (i : ℕ). i * k) sum, ap (λ (i : ℕ). m * i) e, ap (λ (i : ℕ). i * n) e')

-- at a point of P Q and R S, the cross product with P Q is zero
pub linear : (P Q R S : Point) {q x y : ℕ} (a : Weights P Q q x y) (b : Weights R S q x y) →
    b.u * plus P Q R + b.v * plus P Q S ≡ b.u * minus P Q R + b.v * minus P Q S
linear P Q R S {q} {x} {y} a b = affine (P.column * Q.row) _ _ _ _ _ _ _ _ _ _ _ b.sum b.in_row b.in_column ∙
    sym (affine _ _ _ _ _ _ _ _ _ _ _ _ a.sum a.in_row a.in_column) ∙ omega arith ∙
    affine _ _ _ _ _ _ _ _ _ _ _ _ a.sum a.in_column a.in_row ∙
    sym (affine (P.row * Q.column) _ _ _ _ _ _ _ _ _ _ _ b.sum b.in_column b.in_row)

-- Cramer's rule
pub cramer_column : (P Q R S : Point) → plus P Q S * R.column + minus P Q R * S.column + minus R S P * Q.column + plus R S Q * P.column ≡
    minus P Q S * R.column + plus P Q R * S.column + plus R S P * Q.column + minus R S Q * P.column
cramer_column P Q R S = omega arith

pub cramer_row : (P Q R S : Point) → plus P Q S * R.row + minus P Q R * S.row + minus R S P * Q.row + plus R S Q * P.row ≡
    minus P Q S * R.row + plus P Q R * S.row + plus R S P * Q.row + minus R S Q * P.row
cramer_row P Q R S = omega arith

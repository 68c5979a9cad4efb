-- What fits a signed width, of an integer that is a difference of two naturals: differences of columns and rows below 65536, and their cross products.
use mathlib.Core.Path.{◌≡◌, ap₂, ◌∙◌}
use Prim.Native.Nat.{ℕ, ◌*◌, ◌^◌, ◌≤◌, ◌<◌}
use native.Mathlib.Nat.{mul-le-mul}
use native.Mathlib.Omega.{arith}
use lib.IntN.{ℤ, pos, negsuc, ◌-ℤ◌, ◌*ℤ◌}
use lib.Signed.{mag}
use mir.Syntax.{Width}
use mir.Val.{hbits, SFits, to_z, of_z}
use mir.ValLaws.{to_z-of_z}
use Rattle.segment.specs.declared.Point.{Point}
use Rattle.segment.specs.Segment.{cross}
use Rattle.segment.proofs.Difference.{Diff, diff_pos, diff_mul}
use Rattle.segment.proofs.CrossProduct.{cross_diff}

fits : {w : Width} (z : ℤ) {a b : ℕ} → Diff z a b → a < 2 ^ hbits w → b < 2 ^ hbits w → SFits w z
fits (pos n) h k l = omega arith
fits (negsuc n) h k l = omega arith

-- what a call gave, as it is read back from its bits
pub given : (w : Width) {z x : ℤ} → z ≡ x → mag z < 2 ^ hbits w → to_z w (of_z w z) ≡ x
given w {z} e k = to_z-of_z w z (record { sfits = k }) ∙ e

below : {x y : ℕ} → x < 65536 → y < 65536 → x * y ≤ 4294836225
below h k = mul-le-mul {n₂ = 65535} {m₂ = 65535} (omega arith) (omega arith)

pub record Grid (P : Point) : Type 0 where
  pub column< : P.column < 65536
  pub row< : P.row < 65536

-- the sums of three products fit the width
module _ (w : Width) (room : 12884508675 < 2 ^ hbits w) where
  pub fits_product : {u v : ℤ} {a b c d : ℕ} → u ≡ pos a -ℤ pos b → v ≡ pos c -ℤ pos d → a < 65536 → b < 65536 → c < 65536 → d < 65536 → SFits w (u *ℤ v)
  fits_product {a = a} {b = b} {c = c} {d = d} e f i j k l =
      rw (e, f) (fits _ (diff_mul _ _ (diff_pos a b) (diff_pos c d)) (omega (arith, below i k, below j l)) (omega (arith, below i l, below j k)))

  -- the same of two differences as they are read back from their bits
  back : {z : ℤ} {a b : ℕ} → z ≡ pos a -ℤ pos b → a < 65536 → b < 65536 → to_z w (of_z w z) ≡ pos a -ℤ pos b
  back {a = a} {b = b} e i j = to_z-of_z w _ (rw e (fits _ (diff_pos a b) (omega arith) (omega arith))) ∙ e

  pub product_fits : {u v : ℤ} {a b c d : ℕ} → u ≡ pos a -ℤ pos b → v ≡ pos c -ℤ pos d → a < 65536 → b < 65536 → c < 65536 → d < 65536 →
      SFits w (to_z w (of_z w u) *ℤ to_z w (of_z w v))
  product_fits e f i j k l = fits_product (back e i j) (back f k l) i j k l

  -- the cross product as the machine computes it, from the four differences
  module _ {P A B : Point} (p : Grid P) (a : Grid A) (b : Grid B) {u v s t : ℤ} (eu : u ≡ pos A.column -ℤ pos P.column)
      (ev : v ≡ pos B.row -ℤ pos P.row)
      (es : s ≡ pos A.row -ℤ pos P.row) (et : t ≡ pos B.column -ℤ pos P.column) where
    whole : to_z w (of_z w (u *ℤ v)) -ℤ to_z w (of_z w (s *ℤ t)) ≡ cross P A B
    unfolding cross
    whole = ap₂ ◌-ℤ◌ (to_z-of_z w _ (fits_product eu ev a.column< p.column< b.row< p.row<) ∙ ap₂ ◌*ℤ◌ eu ev)
        (to_z-of_z w _ (fits_product es et a.row< p.row< b.column< p.column<) ∙ ap₂ ◌*ℤ◌ es et)

    pub fits_cross : SFits w (to_z w (of_z w (u *ℤ v)) -ℤ to_z w (of_z w (s *ℤ t)))
    fits_cross = rw whole (fits _ (cross_diff P A B) (omega (arith, below p.column< a.row<, below a.column< b.row<, below b.column< p.row<))
        (omega (arith, below p.row< a.column<, below a.row< b.column<, below b.row< p.column<)))

    pub read_cross : to_z w (of_z w (to_z w (of_z w (u *ℤ v)) -ℤ to_z w (of_z w (s *ℤ t)))) ≡ cross P A B
    read_cross = to_z-of_z w _ fits_cross ∙ whole

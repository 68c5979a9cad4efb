-- Lines of which each is to the left of the next: the first is to the left of the last on a level that all have. Rests on Levels.
use mathlib.Core.Path.{◌≡◌, refl, ap, sym, ◌∙◌, subst}
use Prim.Native.Nat.{ℕ, ◌+◌, ◌*◌, ◌-◌, ◌≤◌, ◌<◌}
use native.Mathlib.Nat.{mul-le-mul_left, le_of_mul-le-mul_left, eq_of_mul-eq-mul_left}
use native.Mathlib.Decide.{dec_lt}
use native.Mathlib.Omega.{arith}
use Rattle.segment.specs.declared.Point.{Point}
use Rattle.segment.specs.Segment.{Is}
use Rattle.segment.specs.inner.Test.{number}
use Rattle.segment.proofs.Weights.{Weights}
use Rattle.segment.proofs.Clashing.{point}
use Rattle.neighbours.specs.inner.Side.{Ends}
use Rattle.neighbours.proofs.Levels.{EndAt, Level, Ordered, is_moved}

-- ---- a line has a point on each level between its ends

-- A point of P Q on the level of (x, y) / q.
pub record Spot (b : ℕ) (P Q : Point) (q x y : ℕ) : Type 0 where
  pub q' : ℕ
  pub x' : ℕ
  pub y' : ℕ
  pub one : 1 ≤ q'
  pub on : Weights P Q q' x' y'
  pub level : Level b q x y q' x' y'

weighed : (t q n m u v : ℕ) → t ≡ q * n + v → t + u ≡ q * m → t * (u + v) ≡ (u * n + v * m) * q
weighed t q n m u v e f = omega (arith, ap (λ (k : ℕ). u * k) e, ap (λ (k : ℕ). v * k) f)

pub spot : (b : ℕ) (P Q : Point) {q x y : ℕ} → 1 ≤ q → number b P ≤ number b Q → q * number b P ≤ b * y + x → b * y + x ≤ q * number b Q → Spot b P Q q x y
spot b P Q {q} {x} {y} one up low high = go (dec_lt (number b P) (number b Q))
  where
    go : Dec (number b P < number b Q) → Spot b P Q q x y
    go (yes l) =
        let t = b * y + x in
        let u = q * number b Q - t in
        let v = t - q * number b P in
        record {
          q' = u + v;
          x' = u * P.column + v * Q.column;
          y' = u * P.row + v * Q.row;
          one = omega (arith, mul-le-mul_left q l);
          on = record { u = u; v = v; sum = refl; in_column = refl; in_row = refl };
          level = record { level = weighed t q (number b P) (number b Q) u v (omega arith) (omega arith) ∙ omega arith };
        }
    go (no l) =
        let e : number b P ≡ number b Q = omega arith in
        record {
          q' = 1;
          x' = P.column;
          y' = P.row;
          one = omega arith;
          on = record { u = 1; v = 0; sum = omega arith; in_column = omega arith; in_row = omega arith };
          level = record { level = omega (arith, ap (λ (n : ℕ). q * n) e) };
        }

-- ---- levels and columns carry on

level_on : {b q x y q' x' y' q'' x'' y'' : ℕ} → 1 ≤ q → Level b q x y q' x' y' → Level b q x y q'' x'' y'' → Level b q' x' y' q'' x'' y''
level_on {b} {q} {x} {y} {q'} {x'} {y'} {q''} {x''} {y''} one e f =
    record { level = eq_of_mul-eq-mul_left q one _ _ (go (b * y + x) (b * y' + x') (b * y'' + x'') e.level f.level) }
  where
    go : (s t w : ℕ) → s * q' ≡ t * q → s * q'' ≡ w * q → q * (t * q'') ≡ q * (w * q')
    go s t w g h = omega (arith, ap (λ (n : ℕ). q'' * n) g, ap (λ (n : ℕ). q' * n) h)

-- x / q, x' / q' and x'' / q'' ascend
ascend : (q x q' x' q'' x'' : ℕ) → 1 ≤ q' → q' * x ≤ q * x' → q'' * x' ≤ q' * x'' → q'' * x ≤ q * x''
ascend q x q' x' q'' x'' one h k = le_of_mul-le-mul_left {k = q'} (omega (arith, mul-le-mul_left q'' h, mul-le-mul_left q k)) one

level_first : (q x q' x' q'' x'' : ℕ) → 1 ≤ q'' → q' * x ≤ q * x' → q'' * x' ≤ q' * x'' → q'' * x ≡ q * x'' → q' * x ≡ q * x'
level_first q x q' x' q'' x'' one h k e = eq_of_mul-eq-mul_left q'' one _ _
    (omega (arith, mul-le-mul_left q'' h, mul-le-mul_left q k, ap (λ (n : ℕ). q' * n) e))

level_second : (q x q' x' q'' x'' : ℕ) → 1 ≤ q → q' * x ≤ q * x' → q'' * x' ≤ q' * x'' → q'' * x ≡ q * x'' → q'' * x' ≡ q' * x''
level_second q x q' x' q'' x'' one h k e = eq_of_mul-eq-mul_left q one _ _ (omega (arith, mul-le-mul_left q'' h, mul-le-mul_left q k, ap (λ (n : ℕ). q' * n) e))

-- ---- a point of P Q is to the left of R S, or an end of both

pub record Under (b : ℕ) (P Q : Point) (q x y : ℕ) (R S : Point) : Type 0 where
  pub left : {q' x' y' : ℕ} → Weights R S q' x' y' → Level b q x y q' x' y' → q' * x ≤ q * x'
  pub common : {q' x' y' : ℕ} → 1 ≤ q' → Weights R S q' x' y' → Level b q x y q' x' y' → q' * x ≡ q * x' → EndAt P Q R S q x y

pub under_next : {b : ℕ} {P Q R S : Point} {q x y : ℕ} → 1 ≤ q → Weights P Q q x y → Ordered b P Q R S → Under b P Q q x y R S
under_next one a o = record { left = λ c e. o.left a c e; common = λ one' c e f. o.common one one' a c e f }

same_is : {E F : Point} {q x y : ℕ} → 1 ≤ q → Is E q x y → Is F q x y → E ≡ F
same_is {E} {F} {q} one i j =
    point (eq_of_mul-eq-mul_left q one _ _ (sym i.in_column ∙ j.in_column)) (eq_of_mul-eq-mul_left q one _ _ (sym i.in_row ∙ j.in_row))

pub under_more : {b : ℕ} {P Q R S G H : Point} {q x y : ℕ} → 0 < b → 1 ≤ q → Under b P Q q x y R S → Spot b R S q x y → Ordered b R S G H →
    Under b P Q q x y G H
under_more {b} {P} {Q} {R} {S} {G} {H} {q} {x} {y} h one u s o = record {
  left = λ c e. ascend q x s.q' s.x' _ _ s.one (u.left s.on s.level) (o.left s.on c (level_on one s.level e));
  common = λ one'' c e f.
      let l = level_on one s.level e in
      let m = u.left s.on s.level in
      let n = o.left s.on c l in
      let f₁ = level_first q x s.q' s.x' _ _ one'' m n f in
      let t = u.common s.one s.on s.level f₁ in
      let w = o.common s.one one'' s.on c l (level_second q x s.q' s.x' _ _ one m n f) in
      let e' : w.E ≡ t.E = same_is one (is_moved b h s.one s.level f₁ w.is) t.is in
      record { E = t.E; first = t.first; second = subst (λ (X : Point). Ends X G H) e' w.second; is = t.is };
}

-- A point that is on R S too is an end of both.
pub under_on : {b : ℕ} {P Q R S : Point} {q x y : ℕ} → 1 ≤ q → Under b P Q q x y R S → Weights R S q x y → EndAt P Q R S q x y
under_on one u c = u.common one c (record { level = refl }) refl

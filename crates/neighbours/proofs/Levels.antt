-- Points (x, y) / q of two lines on one level, that is with one number: which is to the left, by the sides on which the ends of one line are of the other.
-- Rests on the laws of segments.
use mathlib.Core.Path.{◌≡◌, refl, ap, sym, ◌∙◌, subst}
use mathlib.Core.Logic.{◌⊎◌, inl, inr}
use Prim.Native.Nat.{ℕ, ◌+◌, ◌*◌, ◌-◌, ◌≤◌, ◌<◌}
use native.Mathlib.Nat.{mul-le-mul_left, mul-le-mul_right, eq_of_mul-eq-mul_left}
use native.Mathlib.Decide.{dec_lt}
use native.Mathlib.Omega.{arith}
use Rattle.segment.specs.declared.Point.{Point}
use Rattle.segment.specs.Segment.{Is}
use Rattle.segment.specs.inner.Test.{number}
use Rattle.segment.proofs.Weights.{Weights, turned, at_end, at_point}
use Rattle.segment.proofs.CrossProduct.{plus, minus, cross_negative}
use Rattle.segment.proofs.Separate.{number_once}
use Rattle.neighbours.specs.inner.Side.{Ends, Right, Beyond}

-- The cross product with P Q at the point (x, y) / q, times q, as a difference.
abbrev pub plus_at : Point → Point → ℕ → ℕ → ℕ → ℕ
plus_at P Q q x y = q * (P.column * Q.row) + Q.column * y + x * P.row

abbrev pub minus_at : Point → Point → ℕ → ℕ → ℕ → ℕ
minus_at P Q q x y = q * (P.row * Q.column) + Q.row * x + y * P.column

plus_at_lem : (P Q : Point) {R S : Point} {q x y : ℕ} (a : Weights R S q x y) → a.u * plus P Q R + a.v * plus P Q S ≡ plus_at P Q q x y
plus_at_lem P Q a =
    omega (arith, ap (λ (n : ℕ). n * (P.column * Q.row)) a.sum, ap (λ (n : ℕ). Q.column * n) a.in_row, ap (λ (n : ℕ). n * P.row) a.in_column)

minus_at_lem : (P Q : Point) {R S : Point} {q x y : ℕ} (a : Weights R S q x y) → a.u * minus P Q R + a.v * minus P Q S ≡ minus_at P Q q x y
minus_at_lem P Q a =
    omega (arith, ap (λ (n : ℕ). n * (P.row * Q.column)) a.sum, ap (λ (n : ℕ). Q.row * n) a.in_column, ap (λ (n : ℕ). n * P.column) a.in_row)

-- On P Q itself it is zero.
on_zero : (P Q : Point) {q x y : ℕ} (a : Weights P Q q x y) → plus_at P Q q x y ≡ minus_at P Q q x y
on_zero P Q a = omega (arith, plus_at_lem P Q a, minus_at_lem P Q a)

-- (x, y) / q and (x', y') / q' are on one level of a grid of b columns.
pub record Level (b q x y q' x' y' : ℕ) : Type 0 where
  pub level : (b * y + x) * q' ≡ (b * y' + x') * q

pub level_back : {b q x y q' x' y' : ℕ} → Level b q x y q' x' y' → Level b q' x' y' q x y
level_back e = record { level = sym e.level }

-- For a point of a line from (c, r) to (d, s), and any point on its level: the side of the line on which that is says which is to the left.
side : (b f x y x' y' c r d s : ℕ) → d * (b * y + x) ≡ d * (b * y' + x') →
    b * (f + d * y' + x' * r) + x' * (b * s + d) + x * (b * r + c) ≡ b * (f + d * y + x * r) + (d * x + b * x' * r + b * x' * s + x * c)
side b f x y x' y' c r d s e = omega arith

side' : (b g x y x' y' c r d s : ℕ) → c * (b * y + x) ≡ c * (b * y' + x') →
    b * (g + s * x' + y' * c) + x' * (b * r + c) + x * (b * s + d) ≡ b * (g + s * x + y * c) + (d * x + b * x' * r + b * x' * s + x * c)
side' b g x y x' y' c r d s e = omega arith

sides : (b x y x' y' c r d s f g : ℕ) → f + d * y + x * r ≡ g + s * x + y * c → b * y + x ≡ b * y' + x' →
    b * (f + d * y' + x' * r) + x' * (b * s + d) + x * (b * r + c) ≡ b * (g + s * x' + y' * c) + x' * (b * r + c) + x * (b * s + d)
sides b x y x' y' c r d s f g z e =
    side b f x y x' y' c r d s (ap (λ (n : ℕ). d * n) e) ∙ ap (λ (n : ℕ). b * n + (d * x + b * x' * r + b * x' * s + x * c)) z ∙
    sym (side' b g x y x' y' c r d s (ap (λ (n : ℕ). c * n) e))

times : (k f d y r x : ℕ) → k * (f + d * y + x * r) ≡ k * f + d * (k * y) + k * x * r
times k f d y r x = omega arith

-- With P Q from the number n to the number m, and k and l for q' * x and q * x'.
weak : (w p o n m k l : ℕ) → n < m → w * p + l * m + k * n ≡ w * o + l * n + k * m → p ≤ o → k ≤ l
weak w p o n m k l h e g = go (dec_lt l k)
  where
    go : Dec (l < k) → k ≤ l
    go (no z) = omega arith
    go (yes z) =
        let i = m - n in
        let f : m ≡ n + i = omega arith in
        let j : (l + 1) * i ≤ k * i = mul-le-mul_right i (omega arith) in
        absurd (omega (arith, mul-le-mul_left w g, ap (λ (t : ℕ). l * t) f, ap (λ (t : ℕ). k * t) f, j))

weak_back : (w p o n m k l : ℕ) → n < m → w * p + l * m + k * n ≡ w * o + l * n + k * m → o ≤ p → l ≤ k
weak_back w p o n m k l h e g = weak w o p n m l k h (omega arith) g

level_sided : (w p o n m k l : ℕ) → 0 < w → k ≡ l → w * p + l * m + k * n ≡ w * o + l * n + k * m → p ≡ o
level_sided w p o n m k l h f e = eq_of_mul-eq-mul_left w h p o (omega (arith, ap (λ (t : ℕ). t * n) f, ap (λ (t : ℕ). t * m) f))

module _ (b : ℕ) {P Q : Point} {q x y q' x' y' : ℕ} (a : Weights P Q q x y) (e : Level b q x y q' x' y') where
  sided : b * (q * plus_at P Q q' x' y') + q * x' * number b Q + q' * x * number b P ≡
      b * (q * minus_at P Q q' x' y') + q * x' * number b P + q' * x * number b Q
  sided =
      let f = q * (q' * (P.column * Q.row)) in
      let g = q * (q' * (P.row * Q.column)) in
      let z : f + Q.column * (q' * y) + q' * x * P.row ≡ g + Q.row * (q' * x) + q' * y * P.column =
      omega (arith, ap (λ (n : ℕ). q' * n) (on_zero P Q a)) in
      rw (times q (q' * (P.column * Q.row)) Q.column y' P.row x', times q (q' * (P.row * Q.column)) Q.row x' P.column y')
      (sides b (q' * x) (q' * y) (q * x') (q * y') P.column P.row Q.column Q.row f g z (omega (arith, e.level)))

  -- weakly to the right of P Q, weakly to the left, and on it
  pub not_left : number b P < number b Q → plus_at P Q q' x' y' ≤ minus_at P Q q' x' y' → q' * x ≤ q * x'
  not_left h g = weak b (q * plus_at P Q q' x' y') (q * minus_at P Q q' x' y') (number b P) (number b Q) (q' * x) (q * x') h sided (mul-le-mul_left q g)

  pub not_right : number b P < number b Q → minus_at P Q q' x' y' ≤ plus_at P Q q' x' y' → q * x' ≤ q' * x
  not_right h g = weak_back b (q * plus_at P Q q' x' y') (q * minus_at P Q q' x' y') (number b P) (number b Q) (q' * x) (q * x') h sided (mul-le-mul_left q g)

  pub on_side_lem : 0 < b → 1 ≤ q → q' * x ≡ q * x' → plus_at P Q q' x' y' ≡ minus_at P Q q' x' y'
  on_side_lem h one f = eq_of_mul-eq-mul_left q one _ _
      (level_sided b (q * plus_at P Q q' x' y') (q * minus_at P Q q' x' y') (number b P) (number b Q) (q' * x) (q * x') h f sided)

-- ---- both ends of R S are to the right of P Q, or ends of it

-- .. with the cross product over ℕ
abbrev Side : Point → Point → Point → Type 0
Side P Q R = Ends R P Q ⊎ (plus P Q R < minus P Q R)

right_side : (P Q R : Point) → Right P Q R → plus P Q R < minus P Q R
right_side P Q R h = (cross_negative P Q R).0 h

start_side : {P Q R S : Point} → Beyond P Q R S → Side P Q R
start_side (inl (r, e)) = inl r
start_side (inr (inl (inl r, s))) = inl r
start_side {P} {Q} {R} (inr (inl (inr r, s))) = inr (right_side P Q R r)
start_side {P} {Q} {R} (inr (inr (r, s))) = inr (right_side P Q R r)

end_side : {P Q R S : Point} → Beyond P Q R S → Side P Q S
end_side {P} {Q} (inl (r, e)) = inl (subst (λ (X : Point). Ends X P Q) e r)
end_side {P} {Q} {S = S} (inr (inl (r, s))) = inr (right_side P Q S s)
end_side (inr (inr (r, s))) = inl s

weakly : {P Q R : Point} → Side P Q R → plus P Q R ≤ minus P Q R
weakly (inl (inl e)) = rw e (omega arith)
weakly (inl (inr e)) = rw e (omega arith)
weakly (inr h) = omega arith

no_side : {P Q : Point} (R : Point) → P ≡ Q → plus P Q R < minus P Q R → ⊥
no_side {P} {Q} R e h = let g : plus P P R < minus P P R = subst (λ (X : Point). plus P X R < minus P X R) (sym e) h in omega arith

-- The point of R S at (x', y') / q' is an end of both.
pub record EndAt (P Q R S : Point) (q x y : ℕ) : Type 0 where
  pub E : Point
  pub first : Ends E P Q
  pub second : Ends E R S
  pub is : Is E q x y

module _ {P Q R S : Point} (h : Beyond P Q R S) {q' x' y' : ℕ} (c : Weights R S q' x' y') where
  ahead : plus_at P Q q' x' y' ≤ minus_at P Q q' x' y'
  ahead = omega (arith, plus_at_lem P Q c, minus_at_lem P Q c, mul-le-mul_left c.u (weakly (start_side h)), mul-le-mul_left c.v (weakly (end_side h)))

  tie : 1 ≤ q' → plus_at P Q q' x' y' ≡ minus_at P Q q' x' y' → EndAt P Q R S q' x' y'
  tie one f = go h (dec_lt 0 c.u) (dec_lt 0 c.v)
    where
      both : c.u * plus P Q R + c.v * plus P Q S ≡ c.u * minus P Q R + c.v * minus P Q S
      both = plus_at_lem P Q c ∙ f ∙ sym (minus_at_lem P Q c)

      go : Beyond P Q R S → Dec (0 < c.u) → Dec (0 < c.v) → EndAt P Q R S q' x' y'
      go (inl (r, e)) i j = record { E = R; first = r; second = inl refl; is = at_point c (sym e) }
      go (inr (inl (inl r, s))) i (yes j) =
          absurd (omega (arith, both, mul-le-mul_left c.u (weakly (start_side h)), mul-le-mul_left c.v (right_side P Q S s)))
      go (inr (inl (inl r, s))) i (no j) = record { E = R; first = r; second = inl refl; is = at_end c (omega arith) }
      go (inr (inl (inr r, s))) i j =
          absurd (omega (arith, both, c.sum, mul-le-mul_left c.v (right_side P Q S s), mul-le-mul_left c.u (right_side P Q R r)))
      go (inr (inr (r, s))) (yes i) j =
          absurd (omega (arith, both, mul-le-mul_left c.v (weakly (end_side h)), mul-le-mul_left c.u (right_side P Q R r)))
      go (inr (inr (r, s))) (no i) j = record { E = S; first = s; second = inr refl; is = at_end (turned c) (omega arith) }

  -- where P Q is a point, so is R S, and the same
  alone : P ≡ Q → {q x y : ℕ} (a : Weights P Q q x y) → q' * x ≡ q * x'
  alone e {q} {x} {y} a = go (start_side h) (end_side h)
    where
      ended : {T : Point} → Ends T P Q → T ≡ P
      ended (inl k) = k
      ended (inr k) = k ∙ sym e

      go : Side P Q R → Side P Q S → q' * x ≡ q * x'
      go (inr r) s = absurd (no_side R e r)
      go (inl r) (inr s) = absurd (no_side S e s)
      go (inl r) (inl s) =
          let i = at_point a (sym e) in
          let j = at_point c (ended s ∙ sym (ended r)) in
          omega (arith, ap (λ (n : ℕ). q' * n) i.in_column, ap (λ (n : ℕ). q * n) j.in_column, ap (λ (X : Point). q * q' * X.column) (ended r))

-- ---- the order of two lines

-- P Q is to the left of R S on each level that both have, but at common ends.
pub record Ordered (b : ℕ) (P Q R S : Point) : Type 0 where
  pub left : {q x y q' x' y' : ℕ} → Weights P Q q x y → Weights R S q' x' y' → Level b q x y q' x' y' → q' * x ≤ q * x'
  pub common : {q x y q' x' y' : ℕ} → 1 ≤ q → 1 ≤ q' → Weights P Q q x y → Weights R S q' x' y' → Level b q x y q' x' y' → q' * x ≡ q * x' →
      EndAt P Q R S q x y

-- points of one column and level are the same
pub is_moved : (b : ℕ) {E : Point} {q x y q' x' y' : ℕ} → 0 < b → 1 ≤ q' → Level b q x y q' x' y' → q' * x ≡ q * x' → Is E q' x' y' → Is E q x y
is_moved b {E} {q} {x} {y} {q'} {x'} {y'} h one e f i =
    let c : x ≡ q * E.column = eq_of_mul-eq-mul_left q' one _ _ (omega (arith, ap (λ (n : ℕ). q * n) i.in_column)) in
    let k : b * (q' * y) ≡ b * (q * y') = omega (arith, e.level) in
    let l : q' * y ≡ q * y' = eq_of_mul-eq-mul_left b h _ _ k in
    record { in_column = c; in_row = eq_of_mul-eq-mul_left q' one _ _ (omega (arith, ap (λ (n : ℕ). q * n) i.in_row)) }

module _ (b : ℕ) {P Q R S : Point} (p : P.column < b) (q : Q.column < b) (up : number b P ≤ number b Q) where
  -- R S is beyond P Q, or before it.
  pub right_ordered : Beyond P Q R S → Ordered b P Q R S
  right_ordered h = record {
    left = λ a c e. go a c e (dec_lt (number b P) (number b Q));
    common = λ one one' a c e f. let t = tie h c one' (on_side_lem b a e (omega arith) one f) in
        record { E = t.E; first = t.first; second = t.second; is = is_moved b (omega arith) one' e f t.is };
  }
    where
      go : {q x y q' x' y' : ℕ} (a : Weights P Q q x y) (c : Weights R S q' x' y') → Level b q x y q' x' y' → Dec (number b P < number b Q) → q' * x ≤ q * x'
      go a c e (yes l) = not_left b a e l (ahead h c)
      go a c e (no l) = omega (arith, alone h c (number_once b p q (omega arith)) a)

  pub left_ordered : Beyond Q P R S → Ordered b R S P Q
  left_ordered h = record {
    left = λ a c e. go c a (level_back e) (dec_lt (number b P) (number b Q));
    common = λ one one' a c e f. let t = tie h a one (on_side_lem b (turned c) (level_back e) (omega arith) one' (sym f)) in
        record { E = t.E; first = t.second; second = back t.first; is = t.is };
  }
    where
      back : {E : Point} → Ends E Q P → Ends E P Q
      back (inl e) = inr e
      back (inr e) = inl e

      go : {q x y q' x' y' : ℕ} (a : Weights P Q q x y) (c : Weights R S q' x' y') → Level b q x y q' x' y' → Dec (number b P < number b Q) → q * x' ≤ q' * x
      go a c e (yes l) = not_right b a e l (omega (arith, ahead h c))
      go a c e (no l) = omega (arith, alone h c (number_once b q p (omega arith)) (turned a))

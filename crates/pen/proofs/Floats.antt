-- A 64-bit float is written in one way: two of one value are the same (`unique`). Rests on the kit alone.
use mathlib.Core.Path.{◌≡◌, refl, sym, ap, ◌∙◌, subst}
use mathlib.Core.Bool.{Bool, ◌&&◌}
use Prim.Native.Nat.{ℕ, zero, suc, ◌*◌, ◌%◌, ◌^◌, ◌<◌}
use native.Mathlib.Nat.{lt_irrefl, zero-lt-suc, zero-mul, mul-one, one-mul, mul-pos, mul_assoc, mul_left_comm, pow-suc, pow-succ', eq_of_mul-eq-mul_right}
use native.Mathlib.Omega.{arith}
use lib.Dec.{T, eqb, ltb, leb, eqb→eq}
use lib.IntN.{ℤ, pos, negsuc}
use lib.Ieee.{Float, fin, up, down, binary64, fits, nan, inf}
use lib.Ieee.Fits.{up_pos, down_pos, and_l}
use lib.Ieee.Exact.{HasValue}

-- Of m · 2^e that is a 64-bit float, m is odd, or 0 with the exponent 0.
is_odd : (s : Bool) (m : ℕ) (e : ℤ) → T (fits binary64 (fin s (suc m) e)) → suc m % 2 ≡ 1
unfolding fits
is_odd s m e t =
    eqb→eq (suc m % 2) 1 (and_l (eqb (suc m % 2) 1) (ltb (suc m) (2 ^ 53)) (and_l (eqb (suc m % 2) 1 && ltb (suc m) (2 ^ 53)) (leb (down e) (2 ^ 1074))
    (and_l (eqb (suc m % 2) 1 && ltb (suc m) (2 ^ 53) && leb (down e) (2 ^ 1074)) (ltb (suc m * up e) (2 ^ 1024 * down e)) t)))

zero_exponent : (s : Bool) (e : ℤ) → T (fits binary64 (fin s zero e)) → e ≡ pos 0
unfolding fits
zero_exponent s e t = flat e (eqb→eq (up e * down e) 1 t)
  where
    no_half : (k : ℕ) → 2 ^ suc k ≡ 1 → ⊥
    no_half k h = omega (arith, sym (pow-succ' 2 k) ∙ h)

    flat : (e : ℤ) → up e * down e ≡ 1 → e ≡ pos 0
    flat (pos zero) h = refl
    flat (pos (suc k)) h = absurd (no_half k (sym (mul-one (2 ^ suc k)) ∙ h))
    flat (negsuc k) h = absurd (no_half k (sym (one-mul (2 ^ suc k)) ∙ h))

-- An odd number is no multiple of a power of two above 1, so an odd number times a power of two is so in one way.
no_multiple : (m n k : ℕ) → m % 2 ≡ 1 → m ≡ n * 2 ^ suc k → ⊥
no_multiple m n k o h = let e : m ≡ 2 * (n * 2 ^ k) = h ∙ ap (λ (x : ℕ). n * x) (pow-succ' 2 k) ∙ mul_left_comm n 2 (2 ^ k) in omega arith

odd_powers : (m n a b : ℕ) → m % 2 ≡ 1 → n % 2 ≡ 1 → m * 2 ^ a ≡ n * 2 ^ b → (m ≡ n) × (a ≡ b)
odd_powers m n zero zero o p h = (sym (mul-one m) ∙ h ∙ mul-one n, refl)
odd_powers m n zero (suc b) o p h = absurd (no_multiple m n b o (sym (mul-one m) ∙ h))
odd_powers m n (suc a) zero o p h = absurd (no_multiple n m a p (sym (mul-one n) ∙ sym h))
odd_powers m n (suc a) (suc b) o p h =
    let r = odd_powers m n a b o p (eq_of_mul-eq-mul_right 2 (zero-lt-suc 1) (m * 2 ^ a) (n * 2 ^ b)
    (mul_assoc m (2 ^ a) 2 ∙ ap (λ (x : ℕ). m * x) (sym (pow-suc 2 a)) ∙ h ∙ ap (λ (x : ℕ). n * x) (pow-suc 2 b) ∙ sym (mul_assoc n (2 ^ b) 2))) in
    (r.0, ap suc r.1)

-- m · 2^e = n · 2^g
same : (m n : ℕ) (e g : ℤ) → m % 2 ≡ 1 → n % 2 ≡ 1 → m * up e * down g ≡ n * up g * down e → (m ≡ n) × (e ≡ g)
same m n (pos a) (pos b) o p h =
    let r = odd_powers m n a b o p (sym (mul-one (m * 2 ^ a)) ∙ h ∙ mul-one (n * 2 ^ b)) in (r.0, ap pos r.1)
same m n (pos a) (negsuc b) o p h = absurd (no_multiple n (m * 2 ^ a) b p (sym (mul-one n) ∙ sym (mul-one (n * 1)) ∙ sym h))
same m n (negsuc a) (pos b) o p h = absurd (no_multiple m (n * 2 ^ b) a o (sym (mul-one m) ∙ sym (mul-one (m * 1)) ∙ h))
same m n (negsuc a) (negsuc b) o p h =
    let r = odd_powers m n (suc b) (suc a) o p (ap (λ (x : ℕ). x * 2 ^ suc b) (sym (mul-one m)) ∙ h ∙ ap (λ (x : ℕ). x * 2 ^ suc a) (mul-one n)) in
    let l : suc a ≡ suc b = sym r.1 in
    let l' : a ≡ b = omega arith in
    (r.0, ap negsuc l')

-- x / d and y / f are both a / c.
crossed : (x d y f a c : ℕ) → 0 < c → x * c ≡ a * d → y * c ≡ a * f → x * f ≡ y * d
crossed x d y f a c z v w =
    let v' : x * c * f ≡ a * d * f = ap (λ (k : ℕ). k * f) v in
    let w' : y * c * d ≡ a * f * d = ap (λ (k : ℕ). k * d) w in
    eq_of_mul-eq-mul_right c z (x * f) (y * d) (omega arith)

-- Zero is no other number.
not_zero : (m : ℕ) (e g : ℤ) → zero * up e * down g ≡ suc m * up g * down e → ⊥
not_zero m e g h =
    lt_irrefl 0 (subst (λ (k : ℕ). 0 < k) (sym h ∙ ap (λ (k : ℕ). k * down g) (zero-mul (up e)) ∙ zero-mul (down g))
    (mul-pos (mul-pos (zero-lt-suc m) (up_pos g)) (down_pos e)))

pub unique : (x y : Float) (s : Bool) (a c : ℕ) → 0 < c → T (fits binary64 x) → T (fits binary64 y) → HasValue x s a c → HasValue y s a c → x ≡ y
unique nan y u a c z p q v w = elim v [ ]
unique (inf _) y u a c z p q v w = elim v [ ]
unique (fin s m e) nan u a c z p q v w = elim w [ ]
unique (fin s m e) (inf _) u a c z p q v w = elim w [ ]
unique (fin s m e) (fin t k g) u a c z p q v w = go m k p q (crossed (m * up e) (down e) (k * up g) (down g) a c z v.1 w.1)
  where
    go : (m k : ℕ) → T (fits binary64 (fin s m e)) → T (fits binary64 (fin t k g)) → m * up e * down g ≡ k * up g * down e → fin s m e ≡ fin t k g
    go zero zero p q h = λ i. fin ((v.0 ∙ sym w.0) i) zero ((zero_exponent s e p ∙ sym (zero_exponent t g q)) i)
    go zero (suc k) p q h = absurd (not_zero k e g h)
    go (suc m) zero p q h = absurd (not_zero m g e (sym h))
    go (suc m) (suc k) p q h =
        let r = same (suc m) (suc k) e g (is_odd s m e p) (is_odd t k g q) h in
        λ i. fin ((v.0 ∙ sym w.0) i) (r.0 i) (r.1 i)

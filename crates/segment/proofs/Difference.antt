-- An integer as a difference of two naturals, so that a fact of ℤ is a fact of ℕ, where `omega` multiplies out.
use mathlib.Core.Path.{◌≡◌, ap, sym, subst}
use mathlib.Core.Logic.{◌↔◌}
use mathlib.Core.Bool.{Bool, true, false, not, cond}
use Prim.Native.Nat.{ℕ, zero, suc, ◌+◌, ◌*◌, ◌-◌, ◌≤◌, ◌<◌}
use native.Mathlib.Omega.{arith}
use lib.Dec.{T, ltb, leb→le, le→leb, ltb→lt, lt→ltb, nltb→le}
use lib.IntN.{ℤ, pos, negsuc, neg_ℤ, sub_ℕ, ◌+ℤ◌, ◌-ℤ◌, ◌*ℤ◌}
use lib.Signed.{le_z, lt_z}
use Rattle.segment.proofs.Decides.{Decides}

abbrev pub IsMinus : ℤ → ℕ → ℕ → Type 0
IsMinus (pos n) a b = a ≡ b + n
IsMinus (negsuc n) a b = b ≡ a + suc n

-- z is a - b. A record, so that z, a and b are inferred
pub record Diff (z : ℤ) (a b : ℕ) : Type 0 where
  pub is : IsMinus z a b

-- another difference that is the same
pub diff_same : (z : ℤ) {a b a' b' : ℕ} → Diff z a b → a + b' ≡ a' + b → Diff z a' b'
diff_same (pos n) h e = omega arith
diff_same (negsuc n) h e = omega arith

diff_neg : (z : ℤ) {a b : ℕ} → Diff z a b → Diff (neg_ℤ z) b a
diff_neg (pos zero) h = omega arith
diff_neg (pos (suc n)) h = omega arith
diff_neg (negsuc n) h = omega arith

cond_ind : (c : Bool) (x y : ℤ) (P : ℤ → Type 0) → (T c → P x) → (T (not c) → P y) → P (cond c x y)
cond_ind true x y P f g = f tt
cond_ind false x y P f g = g tt

diff_subℕ : (a b : ℕ) → Diff (sub_ℕ a b) a b
diff_subℕ a b = cond_ind (ltb a b) (negsuc (b - suc a)) (pos (a - b)) (λ z. Diff z a b) (λ t. omega (arith, ltb→lt a b t)) (λ t. omega (arith, nltb→le a b t))

diff_add : (z w : ℤ) {a b c d : ℕ} → Diff z a b → Diff w c d → Diff (z +ℤ w) (a + c) (b + d)
diff_add (pos n) (pos m) h k = omega arith
diff_add (pos n) (negsuc m) h k = diff_same _ (diff_subℕ n (suc m)) (omega arith)
diff_add (negsuc n) (pos m) h k = diff_same _ (diff_subℕ m (suc n)) (omega arith)
diff_add (negsuc n) (negsuc m) h k = omega arith

pub diff_sub : {z w : ℤ} {a b c d : ℕ} → Diff z a b → Diff w c d → Diff (z -ℤ w) (a + d) (b + c)
diff_sub h k = diff_add _ _ h (diff_neg _ k)

pub diff_pos : (a b : ℕ) → Diff (pos a -ℤ pos b) a b
diff_pos a b = diff_same _ (diff_sub (whole a) (whole b)) (omega arith)
  where
    whole : (n : ℕ) → Diff (pos n) n 0
    whole n = omega arith

-- the product of two differences
product : (b d n m : ℕ) {a c : ℕ} → a ≡ b + n → c ≡ d + m → a * c + b * d ≡ a * d + b * c + n * m
product b d n m {c = c} e f = omega (arith, ap (λ (i : ℕ). i * c) e, ap (λ (i : ℕ). i * d) e, ap (λ (i : ℕ). i * n) f)

pub diff_mul : (z w : ℤ) {a b c d : ℕ} → Diff z a b → Diff w c d → Diff (z *ℤ w) (a * c + b * d) (a * d + b * c)
diff_mul (pos n) (pos m) {b = b} {d = d} h k = record { is = product b d n m h.is k.is }
diff_mul (pos n) (negsuc m) {b = b} {c = c} h k = diff_neg (pos (n * suc m)) (record { is = product b c n (suc m) h.is k.is })
diff_mul (negsuc n) (pos m) {a = a} {d = d} h k = diff_neg (pos (suc n * m)) (omega (arith, product a d (suc n) m h.is k.is))
diff_mul (negsuc n) (negsuc m) {a = a} {c = c} h k = omega (arith, product a c (suc n) (suc m) h.is k.is)

pub diff_zero : (z : ℤ) {a b : ℕ} → Diff z a b → a ≡ b → z ≡ pos 0
diff_zero (pos n) h e = ap pos (omega arith)
diff_zero (negsuc n) h e = absurd (omega arith)

-- two integers are equal exactly where their differences are
diff_once : (z : ℤ) {a b c d : ℕ} → Diff z a b → Diff z c d → a + d ≡ c + b
diff_once (pos n) h k = omega arith
diff_once (negsuc n) h k = omega arith

diff_level : (z w : ℤ) {a b c d : ℕ} → Diff z a b → Diff w c d → a + d ≡ c + b → z ≡ w
diff_level (pos n) (pos m) h k e = ap pos (omega arith)
diff_level (pos n) (negsuc m) h k e = absurd (omega arith)
diff_level (negsuc n) (pos m) h k e = absurd (omega arith)
diff_level (negsuc n) (negsuc m) h k e = ap negsuc (omega arith)

pub diff_equal : {z w : ℤ} {a b c d : ℕ} → Diff z a b → Diff w c d → (z ≡ w) ↔ (a + d ≡ c + b)
diff_equal {z} {w} {c = c} {d} h k = (λ e. diff_once z h (subst (λ (v : ℤ). Diff v c d) (sym e) k), diff_level z w h k)

-- the signs
pub diff_nonneg : (z : ℤ) {a b : ℕ} → Diff z a b → Decides (le_z (pos 0) z) (b ≤ a)
diff_nonneg (pos n) h = record { is = (λ t. omega arith, λ l. le→leb 0 n (omega arith)) }
diff_nonneg (negsuc n) h = record { is = (λ t. absurd t, λ l. omega arith) }

pub diff_nonpos : (z : ℤ) {a b : ℕ} → Diff z a b → Decides (le_z z (pos 0)) (a ≤ b)
diff_nonpos (pos n) h = record { is = (λ t. omega (arith, leb→le n 0 t), λ l. le→leb n 0 (omega arith)) }
diff_nonpos (negsuc n) h = record { is = (λ t. omega arith, λ l. tt) }

pub diff_positive : (z : ℤ) {a b : ℕ} → Diff z a b → Decides (lt_z (pos 0) z) (b < a)
diff_positive (pos n) h = record { is = (λ t. omega (arith, ltb→lt 0 n t), λ l. lt→ltb 0 n (omega arith)) }
diff_positive (negsuc n) h = record { is = (λ t. absurd t, λ l. omega arith) }

pub diff_negative : (z : ℤ) {a b : ℕ} → Diff z a b → Decides (lt_z z (pos 0)) (a < b)
diff_negative (pos n) h = record { is = (λ t. omega (arith, ltb→lt n 0 t), λ l. lt→ltb n 0 (omega arith)) }
diff_negative (negsuc n) h = record { is = (λ t. omega arith, λ l. tt) }

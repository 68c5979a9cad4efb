-- A test that computes, and the statement that it decides.
use mathlib.Core.Path.{◌≡◌}
use mathlib.Core.Bool.{Bool, true, false, not, cond, ◌&&◌, ◌||◌}
use mathlib.Core.Logic.Iff
use mathlib.Core.Logic.{◌↔◌, ◌⊎◌, ⊎_elim, ⊎_map}
use Prim.Native.Nat.{ℕ, ◌≤◌, ◌<◌}
use lib.Dec.{T, T_not, not_T, leb, ltb, eqb, leb→le, le→leb, ltb→lt, lt→ltb, eqb→eq}
use mir.Facts.{T_not-not, and_yes, yes_and, or_yes, or_no, yes_eqb}

-- A record, so that b and A are inferred
pub record Decides (b : Bool) (A : Type 0) : Type 0 where
  pub is : T b ↔ A

pub le_decides : (m n : ℕ) → Decides (leb m n) (m ≤ n)
le_decides m n = record { is = (leb→le m n, le→leb m n) }

pub lt_decides : (m n : ℕ) → Decides (ltb m n) (m < n)
lt_decides m n = record { is = (ltb→lt m n, lt→ltb m n) }

pub eq_decides : (m n : ℕ) → Decides (eqb m n) (m ≡ n)
eq_decides m n = record { is = (eqb→eq m n, λ e. yes_eqb e) }

pub not_decides : {b : Bool} {A : Type 0} → Decides b A → Decides (not b) (A → ⊥)
not_decides {b} d = record { is = (λ h a. T_not b h (d.is.1 a), λ n. not_T b (λ h. n (d.is.0 h))) }

-- The second test is asked only where the first passes.
pub guard_decides : {a b : Bool} {A B : Type 0} → Decides a A → (B → A) → (A → Decides b B) → Decides (a && b) B
guard_decides {a} {b} p f g = record {
  is =
      (λ t. let z = and_yes a b t in (g (p.is.0 z.0)).is.0 z.1, λ y. yes_and a b (p.is.1 (f y)) ((g (f y)).is.1 y));
}

pub and_decides : {a b : Bool} {A B : Type 0} → Decides a A → Decides b B → Decides (a && b) (A × B)
and_decides p q = guard_decides p (λ z. z.0) (λ x. record { is = (λ t. (x, q.is.0 t), λ z. q.is.1 z.1) })

-- Where neither passes, neither holds.
pub or_decides : {a b : Bool} {A B : Type 0} → Decides a A → Decides b B → Decides (a || b) (A ⊎ B)
or_decides {a} {b} p q = record {
  is = (
    λ t. ⊎_map p.is.0 q.is.0 (or_yes a b t),
    λ z. T_not-not (a || b) (not_T (not (a || b)) (λ t. let n = or_no a b t in ⊎_elim (λ x. T_not a n.0 (p.is.1 x)) (λ y. T_not b n.1 (q.is.1 y)) z)),
  );
}

pub same_meaning : {b : Bool} {A B : Type 0} → A ↔ B → Decides b A → Decides b B
same_meaning e p = record { is = Iff.trans p.is e }

T-cond : (c x y : Bool) {A : Type 0} → (T c → T x ↔ A) → (T (not c) → T y ↔ A) → T (cond c x y) ↔ A
T-cond true x y f g = f tt
T-cond false x y f g = g tt

pub cond_decides : {c x y : Bool} {C A : Type 0} → Decides c C → (C → Decides x A) → ((C → ⊥) → Decides y A) → Decides (cond c x y) A
cond_decides {c} {x} {y} p f g = record { is = T-cond c x y (λ t. (f (p.is.0 t)).is) (λ t. (g (λ z. T_not c t (p.is.1 z))).is) }

pub dec : {b : Bool} {A : Type 0} → Decides b A → Dec A
dec {b} {A} d = go b d.is
  where
    go : (b : Bool) → T b ↔ A → Dec A
    go true h = yes (h.0 tt)
    go false h = no h.1

-- Columns inwards from an edge: what is needed to go some columns inwards, or over to the other hand.
use mathlib.Core.Path.{◌≡◌, refl}
use Prim.Native.Nat.{ℕ, suc, ◌+◌, ◌-◌, ◌≤◌, ◌<◌}
use native.Mathlib.Omega.{arith}
use Rattle.table.specs.Table.{Side, left, right}
use Rattle.layout.specs.Spine.{opposite}
use Rattle.layout.specs.inner.Held.{inwards, Inside}
use Rattle.roles.specs.declared.sides.Side.{Side as CodeSide}
use Rattle.roles.specs.declared.sides.Side.TheVariants.{Left, Right}
use Rattle.roles.specs.Chosen.{side_of}

pub inside_edge : (a : Side) (e n : ℕ) → Inside 65536 a e (suc n) → e < 65536
inside_edge left e n c = omega arith
inside_edge right e n c = omega arith

pub inside_count : (a : Side) (e n : ℕ) → Inside 65536 a e n → n ≤ 65536
inside_count left e n c = omega arith
inside_count right e n c = omega arith

-- The other hand's edge is there, and this hand's is as far from it.
pub over_edge : (a : Side) (e w : ℕ) → Inside 65536 a e (suc w) → Inside 65536 (opposite a) (inwards a e w) 1
unfolding inwards opposite
over_edge left e w c = (omega arith, omega arith)
over_edge right e w c = omega arith

pub over_back : (a : Side) (e w : ℕ) → Inside 65536 a e (suc w) → inwards (opposite a) (inwards a e w) w ≡ e
unfolding inwards opposite
over_back left e w c = omega arith
over_back right e w c = omega arith

-- ---- sides as code has them

pub side_same : (b d : CodeSide) → side_of b ≡ side_of d → b ≡ d
side_same Left Left e = refl
side_same Right Right e = refl
side_same Left Right e = cc
side_same Right Left e = cc

pub inwards_left : (s : Side) (e k : ℕ) → s ≡ left → Inside 65536 s e (k + 1) → (e + k < 65536) × (e + k ≡ inwards s e k)
unfolding inwards
inwards_left left e k h c = (omega arith, refl)
inwards_left right e k h c = cc

pub inwards_right : (s : Side) (e k : ℕ) → s ≡ right → Inside 65536 s e (k + 1) → (k ≤ e) × ((e - k ≡ inwards s e k) × (e - k < 65536))
unfolding inwards
inwards_right right e k h c = (omega arith, (refl, omega arith))
inwards_right left e k h c = cc

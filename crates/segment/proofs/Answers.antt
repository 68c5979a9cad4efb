-- For the proofs of the functions: what the answers of calls say, and the tests made of them.
use mathlib.Core.Path.{◌≡◌, sym, subst}
use mathlib.Core.Bool.{Bool, true, false, ◌&&◌}
use mathlib.Core.Logic.{◌↔◌}
use lib.Dec.{T}
use Rattle.segment.specs.declared.Point.{Point}
use Rattle.segment.specs.Segment.{Share}
use Rattle.segment.specs.Meeting.{Crosses}
use Rattle.segment.proofs.Decides.{Decides}
use Rattle.segment.proofs.SharedPoint.{meets, meets_decides_share}
use Rattle.segment.proofs.Crossing.{crosses, crosses_decides}

pub holds : {b : Bool} {A : Type 0} → b ≡ true → T b ↔ A → A
holds e h = h.0 (subst T (sym e) tt)

pub fails : {b : Bool} {A : Type 0} → b ≡ false → T b ↔ A → A → ⊥
fails e h a = subst T e (h.1 a)

pub found : {A : Type 0} → A → T true ↔ A
found a = (λ z. a, λ z. tt)

pub none : {A : Type 0} → (A → ⊥) → T false ↔ A
none h = (λ z. absurd z, λ a. h a)

pub answer : (b : Bool) {b' : Bool} {A : Type 0} → b ≡ b' → Decides b' A → T b ↔ A
answer b {A = A} e d = subst (λ (t : Bool). T t ↔ A) (sym e) d.is

-- what is left of a test once its first part is known
pub and_skip : {s t z : Bool} → s ≡ true → (s && t) ≡ z → t ≡ z
and_skip e h = cc

pub and_stop : {s z : Bool} (t : Bool) → s ≡ false → (s && t) ≡ z → false ≡ z
and_stop t e h = cc

-- a test's answer, once it is the test that computes
pub shares : {r : Bool} {P Q R S : Point} → r ≡ meets P Q R S → T r ↔ Share P Q R S
shares e = answer _ e (meets_decides_share _ _ _ _)

pub crossed : {r : Bool} {P Q R S : Point} → r ≡ crosses P Q R S → T r ↔ Crosses P Q R S
crossed e = answer _ e (crosses_decides _ _ _ _)

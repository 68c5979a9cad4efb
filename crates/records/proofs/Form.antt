-- Causes 1 and 2 from the tests of the code, and what a table without them has. Rests on Causes.
use mathlib.Core.Path.{◌≡◌, refl}
use mathlib.Core.Bool.{Bool, true, false, cond}
use mathlib.Core.List.{List}
use Prim.Native.Nat.{ℕ, suc, ◌%◌, ◌≤◌}
use native.Mathlib.Omega.{arith}
use borrow.Author.Tests.{eq-eqb, ne_eqb, le-ltb}
use lib.ListN.{length}
use Rattle.table.specs.Table.{tag_of}
use Rattle.table.specs.Refusal.{bad_length, bad_head}
use Rattle.chains.specs.inner.Listing.{Shaped}
use Rattle.table.proofs.Causes.{length_bounds}

-- Causes 1 and 2, in this order.
abbrev pub form : List ℕ → ℕ
form t = cond (bad_length t) 1 (cond (bad_head t) 2 0)

module _ (t : List ℕ) (some : length t ≡ 0 → ⊥) (eights : length t % 8 ≡ 0) (short : length t ≤ 32776) where
  whole : bad_length t ≡ false
  unfolding bad_length
  whole = simp (ne_eqb _ _ some, eq-eqb _ _ eights, le-ltb _ _ short)

  pub tag_given : (tag_of t 0 ≡ 0 → ⊥) → 2 ≡ form t
  unfolding bad_head
  tag_given g = simp (whole, ne_eqb _ _ g)

  pub well_formed : tag_of t 0 ≡ 0 → 0 ≡ form t
  unfolding bad_head
  well_formed g = simp (whole, eq-eqb _ _ g)

-- Of two causes the first that holds is told, whatever is tested after them; 0 tells that neither holds.
pub first_of_two : (a b : Bool) (m n rest r : ℕ) → r ≡ cond a m (cond b n 0) → (r ≡ 0 → ⊥) → r ≡ cond a m (cond b n rest)
first_of_two true b m n rest r e h = e
first_of_two false true m n rest r e h = e
first_of_two false false m n rest r e h = absurd (h e)

pub neither : (a b : Bool) (m n : ℕ) → cond a (suc m) (cond b (suc n) 0) ≡ 0 → (a ≡ false) × (b ≡ false)
neither true b m n e = absurd (omega arith)
neither false true m n e = absurd (omega arith)
neither false false m n e = (refl, refl)

pub shaped : (t : List ℕ) → form t ≡ 0 → Shaped t
shaped t e =
    let (w, z) = neither (bad_length t) (bad_head t) 0 1 e in
    let b = length_bounds t w in
    record { whole = w; tagless = z; head = b.0; room = b.1 }

-- The two halves of hanging: `second_half`. Rests on Causes (`table`) and Answering (`hanging`).
use mathlib.Core.Path.{◌≡◌, refl, sym, ◌∙◌}
use mathlib.Core.Logic.{◌≢◌}
use mathlib.Core.List.{List}
use Prim.Native.Nat.{ℕ, ◌≤◌}
use native.Mathlib.Decide.{ℕ_discrete}
use native.Mathlib.Omega.{arith}
use lib.Dec.{eqb}
use Rattle.table.specs.Table.{first_free}
use Rattle.table.specs.Refusal.{fault}
use Rattle.table.proofs.Causes.{cond_below, fault_below}
use Rattle.hanging.specs.Hanging.{no_place, hang_refusal, after_hang}
use Rattle.hanging.specs.Holding.{held_refusal, after_held}
use Rattle.hanging.proofs.Answering.{hang_after, hang_kept, held_refused, held_moved, held_done}
use Rattle.changes.specs.Halves.{SecondHalf}

-- Hanging itself never answers 11.
hang_below : (t : List ℕ) (parent side : ℕ) → hang_refusal t parent side ≤ 10
unfolding hang_refusal
hang_below t parent side =
    cond_below (eqb (fault t) 0) (cond_below (no_place t parent side) (omega arith) (cond_below (eqb (first_free t) 0) (omega arith) (omega arith)))
    (omega (arith, fault_below t))

module _ (t : List ℕ) (parent side tag held : ℕ) where
  abbrev n : ℕ
  n = hang_refusal t parent side

  same : held ≡ first_free t → Dec (n ≡ 0) → (held_refusal t parent side held ≡ n) × (after_held t parent side tag held ≡ after_hang t parent side tag)
  same e (yes z) = let d = held_done t parent side held tag z e in (sym d.0 ∙ sym z, sym d.1 ∙ hang_after t parent side tag z)
  same e (no r) = let d = held_refused t parent side held tag n refl r in (sym d.0, sym d.1 ∙ hang_kept t parent side tag r)

  unwritten : held ≢ first_free t → Dec (n ≡ 0) → after_held t parent side tag held ≡ t
  unwritten o (yes z) = sym (held_moved t parent side held tag z o).1
  unwritten o (no r) = sym (held_refused t parent side held tag n refl r).1

  free : held_refusal t parent side held ≡ 11 → n ≡ 0
  free e = go (ℕ_discrete n 0)
    where
      go : Dec (n ≡ 0) → n ≡ 0
      go (yes z) = z
      go (no r) = absurd (omega (arith, hang_below t parent side, (held_refused t parent side held tag n refl r).0, e))

  pub second_half : SecondHalf t parent side tag held
  second_half = record {
    answers = λ e. (same e (ℕ_discrete n 0)).0;
    leaves = λ e. (same e (ℕ_discrete n 0)).1;
    kept = λ o. unwritten o (ℕ_discrete n 0);
    refused = λ r. sym (held_refused t parent side held tag n refl r).0;
    eleven = λ z o. sym (held_moved t parent side held tag z o).0;
    only = λ e. (free e, λ q. omega (arith, e, (same q (ℕ_discrete n 0)).0, free e));
  }

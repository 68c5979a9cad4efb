-- Lines passed one by one: what a step along a line, around a node, and from node to node leaves to find (`after`, specs/inner/Steps).
use mathlib.Core.Path.{◌≡◌, refl, sym, ap, ◌∙◌}
use mathlib.Core.Logic.{◌≢◌}
use mathlib.Core.List.{List, ◌++◌}
use Prim.Native.Nat.{ℕ, zero, suc, ◌+◌, ◌-◌, ◌≤◌, ◌<◌}
use native.Mathlib.Numerals.{add-one}
use native.Mathlib.Omega.{arith}
use lib.ListN.{length, get_or, drop, drop_of_length-le}
use lib.Seq.{drop-cons}
use Rattle.std.specs.Prelude.{Option, None, Some}
use Rattle.std.specs.declared.ops.ControlFlow.{ControlFlow}
use Rattle.table.specs.Table.{left_of, right_of}
use Rattle.pen.specs.declared.lines.Ends.{Ends}
use Rattle.pen.specs.Lines.{line_to, lines_from, line_at}
use Rattle.pen.specs.inner.Steps.{after}

module _ (k : ℕ) (rest : List Ends) where
  pub no_line : (child skip : ℕ) → child ≡ 0 → line_at (line_to k child ++ rest) skip ≡ line_at rest skip
  unfolding line_to
  no_line zero skip e = refl
  no_line (suc c) skip e = absurd (omega arith)

  pub found : (child skip : ℕ) → child ≢ 0 → skip ≡ 0 → line_at (line_to k child ++ rest) skip ≡ Some (record { parent = k; child = child })
  unfolding line_to
  found zero skip h e = absurd (h refl)
  found (suc c) zero h e = refl
  found (suc c) (suc n) h e = absurd (omega arith)

  pub passed : (child skip : ℕ) → child ≢ 0 → skip ≢ 0 → line_at (line_to k child ++ rest) skip ≡ line_at rest (skip - 1)
  unfolding line_to
  passed zero skip h a = absurd (h refl)
  passed (suc c) zero h a = absurd (a refl)
  passed (suc c) (suc n) h a = let e : n ≡ suc n - 1 = omega arith in ap (line_at rest) e

module _ (t ks : List ℕ) (i : ℕ) where
  -- No lines are left past the last node.
  pub past_last : (skip : ℕ) → length ks ≤ i → line_at (lines_from t (drop i ks)) skip ≡ None
  unfolding lines_from
  past_last skip h = rw (drop_of_length-le ks h)

  -- A step around the node at place i leaves the same line to find among those from the next place on.
  pub moves : (k skip : ℕ) (r : ControlFlow Ends ℕ) {e : Option Ends} → i < length ks → get_or ks i 0 ≡ k
      → ((rest : List Ends) → line_at (line_to k (left_of t k) ++ (line_to k (right_of t k) ++ rest)) skip ≡ after r rest)
      → line_at (lines_from t (drop i ks)) skip ≡ e → after r (lines_from t (drop (i + 1) ks)) ≡ e
  unfolding lines_from
  moves k skip r h e a inv = sym (a (lines_from t (drop (i + 1) ks))) ∙ ap (λ (ls : List Ends). line_at ls skip) (sym unfolds) ∙ inv
    where
      unfolds : lines_from t (drop i ks) ≡ line_to k (left_of t k) ++ (line_to k (right_of t k) ++ lines_from t (drop (i + 1) ks))
      unfolds = ap (lines_from t) (drop-cons ks i 0 h) ∙ rw (e, add-one)

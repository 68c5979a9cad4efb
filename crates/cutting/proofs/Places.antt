-- What it takes that cutting is not refused: an accepted table, and a leaf (`cuttable`). Rests on Lists, Causes and Accepted (`table`).
use mathlib.Core.Path.{◌≡◌}
use mathlib.Core.Logic.{inl, inr}
use mathlib.Core.Bool.{false, not, ◌&&◌, and-false}
use mathlib.Core.List.{List}
use Prim.Native.Nat.{ℕ, ◌≤◌, ◌<◌}
use lib.Dec.{ltb, eqb}
use lib.ListN.{length}
use borrow.Author.Tests.{ltb-false, le-ltb, eq-eqb, ne_eqb}
use Rattle.table.specs.Lists.{member}
use Rattle.table.specs.Table.{records, left_of, right_of, root_of, chain, Chained}
use Rattle.table.specs.Refusal.{fault}
use Rattle.table.proofs.Lists.{T_true, passes, or_false, Alike, alike}
use Rattle.table.proofs.Causes.{or_else_none, zero_word}
use Rattle.table.proofs.Accepted.{no_cause, chain_within}
use Rattle.cutting.specs.Cutting.{still_root, no_leaf, cut_refusal}

-- What a cut that is not refused is given: a leaf, which is the head's root only if no other node is there.
pub record Cuttable (t : List ℕ) (k : ℕ) : Type 0 where
  pub accepted : fault t ≡ 0
  pub leaf : Chained t k
  pub childless : (left_of t k ≡ 0) × (right_of t k ≡ 0)
  pub alone : k ≡ root_of t → length (chain t) ≤ 1

leaf_tests : (t : List ℕ) (k : ℕ) → no_leaf t k ≡ false → Chained t k × ((left_of t k ≡ 0) × (right_of t k ≡ 0)) × (k ≡ root_of t → length (chain t) ≤ 1)
unfolding no_leaf still_root
leaf_tests t k e =
    let b = (or_false (not (member k (chain t))) _).0 e in
    let c = (or_false (not (eqb (left_of t k) 0)) _).0 b.1 in
    let d = (or_false (not (eqb (right_of t k) 0)) _).0 c.1 in (
      passes (member k (chain t)) b.0,
      (zero_word (left_of t k) c.0, zero_word (right_of t k) d.0),
      λ r. ltb-false 1 (length (chain t)) (rw (eq-eqb k (root_of t) r) at d.1),
    )

pub cuttable : (t : List ℕ) (k : ℕ) → cut_refusal t k ≡ 0 → Cuttable t k
unfolding cut_refusal
cuttable t k e =
    let a = (or_else_none (fault t) _).0 e in
    let b = leaf_tests t k (no_cause (no_leaf t k) 8 0 a.1).0 in
    record { accepted = a.0; leaf = b.0; childless = b.1; alone = b.2 }

-- Another node than the head's root, or the only node.
pub no_root : (t : List ℕ) (k : ℕ) → (k ≡ root_of t → length (chain t) ≤ 1) → still_root t k ≡ false
unfolding still_root
no_root t k a = go (alike k (root_of t))
  where
    go : Alike k (root_of t) → eqb k (root_of t) && ltb 1 (length (chain t)) ≡ false
    go (inl e) = rw (le-ltb 1 (length (chain t)) (a e.0), and-false)
    go (inr e) = rw (ne_eqb k (root_of t) e.0)

pub cut_granted : (t : List ℕ) (k : ℕ) → Cuttable t k → cut_refusal t k ≡ 0
unfolding cut_refusal no_leaf
cut_granted t k h =
    rw (
      eq-eqb (fault t) 0 h.accepted,
      (T_true (member k (chain t))).0 h.leaf,
      eq-eqb (left_of t k) 0 h.childless.0,
      eq-eqb (right_of t k) 0 h.childless.1,
      no_root t k h.alone,
    )

pub leaf_inside : (t : List ℕ) (k : ℕ) → fault t ≡ 0 → no_leaf t k ≡ false → k < records t
leaf_inside t k ok e = (chain_within t ok k (leaf_tests t k e).0).1

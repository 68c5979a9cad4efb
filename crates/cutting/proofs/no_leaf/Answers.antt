-- `no_leaf` answers cause 9 of cutting.
use mathlib.Core.Path.{◌≡◌, sym, ◌∙◌}
use mathlib.Core.Bool.{Bool, true, not, ◌||◌, ◌&&◌}
use mathlib.Core.List.{List}
use Prim.Native.Nat.{ℕ}
use native.Mathlib.Omega.{arith}
use lib.Dec.{ltb, eqb}
use lib.ListN.{length}
use Rattle.std.specs.Prelude.{nat_eq}
use Rattle.std.specs.List.{list_any}
use Rattle.std.proofs.lemmas.Bool.Decides.{nat_tests}
use Rattle.table.specs.Table.{left_of, right_of, root_of}
use Rattle.table.proofs.Accepted.{records_bounds}
use Rattle.records.specs.inner.Reading.{Nodes}
use Rattle.records.proofs.Finding.{on_chain, chained, inside}
use Rattle.cutting.specs.Cutting.{still_root, no_leaf}
use Rattle.cutting.proofs.no_leaf.Goals as goal
use Rattle.cutting.proofs.no_leaf.Goals.{then-left-ne0, else-left-ne0}

-- Of a record that is found among the nodes its children and the root decide.
decided : {t list : List ℕ} (l : Nodes t list) (k : ℕ) {found : Bool} → found ≡ list_any (λ n. nat_eq n k) list → found ≡ true →
    no_leaf t k ≡ not (eqb (left_of t k) 0) || (not (eqb (right_of t k) 0) || eqb k (root_of t) && ltb 1 (length list))
unfolding no_leaf still_root
decided l k is e = rw (chained l k is e, l.listed)

pub returns-then-not-contains : goal.returns-then-not-contains
unfolding no_leaf
returns-then-not-contains c = rw (sym (on_chain c.args.forest.listed _) ∙ sym c.contains.ensures.value ∙ c.if-not-contains.true)

pub left-requires : goal.left-requires
left-requires c =
    omega (
      arith,
      c.from-k.ensures,
      records_bounds _ c.args.forest.listed.accepted,
      inside c.args.forest.listed _ c.contains.ensures.value c.if-not-contains.false,
    )

pub right-requires : goal.right-requires
right-requires c =
    omega (
      arith,
      c.from-k.ensures,
      records_bounds _ c.args.forest.listed.accepted,
      inside c.args.forest.listed _ c.contains.ensures.value c.if-not-contains.false,
    )

pub left-requires-else-right-ne0 : goal.left-requires-else-right-ne0
left-requires-else-right-ne0 c = (records_bounds _ c.args.forest.listed.accepted).0

pub returns-then-right-ne0 : goal.returns-then-right-ne0
returns-then-right-ne0 c =
    rw (decided c.args.forest.listed _ c.contains.ensures.value c.if-not-contains.false)
    (elim c.if-left-ne0.branch [ then-left-ne0 w ↦ grind (arith, nat_tests) | else-left-ne0 w ↦ grind (arith, nat_tests) ])

pub returns-then-k-left : goal.returns-then-k-left
returns-then-k-left c =
    rw (decided c.args.forest.listed _ c.contains.ensures.value c.if-not-contains.false)
    (elim c.if-left-ne0.branch [ then-left-ne0 w ↦ grind (arith, nat_tests) | else-left-ne0 w ↦ grind (arith, nat_tests) ])

pub returns-else-k-left : goal.returns-else-k-left
returns-else-k-left c =
    rw (decided c.args.forest.listed _ c.contains.ensures.value c.if-not-contains.false)
    (elim c.if-left-ne0.branch [ then-left-ne0 w ↦ grind (arith, nat_tests) | else-left-ne0 w ↦ grind (arith, nat_tests) ])

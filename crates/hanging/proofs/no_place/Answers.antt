-- `no_place` answers cause 9 of hanging.
use mathlib.Core.Path.{◌≡◌, refl}
use mathlib.Core.Bool.{Bool, true, false, not, ◌&&◌, ◌||◌}
use mathlib.Core.List.{List}
use Prim.Native.Nat.{ℕ, ◌+◌, ◌≤◌}
use native.Mathlib.Omega.{arith}
use lib.Dec.{eqb}
use borrow.Author.Tests.{eq-eqb, ne_eqb, le-ltb}
use Rattle.std.specs.Prelude.{nat_eq}
use Rattle.std.specs.List.{list_any}
use Rattle.std.proofs.lemmas.Bool.Decides.{nat_tests}
use Rattle.table.specs.Table.{word, next_of, left_of}
use Rattle.table.specs.Refusal.{is_empty}
use Rattle.table.proofs.Accepted.{records_bounds}
use Rattle.records.specs.inner.Reading.{Nodes}
use Rattle.records.proofs.Finding.{on_chain, inside}
use Rattle.hanging.specs.Hanging.{slot, no_place}
use Rattle.hanging.proofs.no_place.Goals as goal

not_both : (a b : Bool) → not (a && b) ≡ not a || not b
not_both true b = refl
not_both false b = refl

-- Of the head its links decide; of another parent, whether it is a node, and its link.
of_head : (t : List ℕ) (parent side : ℕ) → side ≤ 1 → parent ≡ 0 → no_place t parent side ≡ not (eqb (next_of t 0) 0) || not (eqb (left_of t 0) 0)
unfolding no_place is_empty
of_head t parent side h p = rw (le-ltb 1 side h, eq-eqb parent 0 p) (not_both (eqb (next_of t 0) 0) (eqb (left_of t 0) 0))

of_node : {t list : List ℕ} (l : Nodes t list) (parent side : ℕ) → side ≤ 1 → (parent ≡ 0 → ⊥) → {found : Bool} →
    found ≡ list_any (λ n. nat_eq n parent) list → no_place t parent side ≡ not found || not (eqb (word t parent (1 + side)) 0)
unfolding no_place slot
of_node l parent side h p is = rw (le-ltb 1 side h, ne_eqb parent 0 p, is, on_chain l parent)

pub next-requires : goal.next-requires
next-requires c = (records_bounds _ c.args.forest.listed.accepted).0

pub left-requires : goal.left-requires
left-requires c = (records_bounds _ c.args.forest.listed.accepted).0

pub returns-then-next-ne0 : goal.returns-then-next-ne0
returns-then-next-ne0 c = rw (of_head _ _ c.args.side (omega arith) c.if-parent-eq0.true) (grind (arith, nat_tests))

pub returns-else-next-ne0 : goal.returns-else-next-ne0
returns-else-next-ne0 c = rw (of_head _ _ c.args.side (omega arith) c.if-parent-eq0.true) (grind (arith, nat_tests))

pub word-requires : goal.word-requires
word-requires c =
    (omega (arith, c.from.ensures, inside c.args.forest.listed _ c.contains.ensures.value c.if-not-contains.false), omega arith)

pub returns-then-not-contains : goal.returns-then-not-contains
returns-then-not-contains c =
    rw (of_node c.args.forest.listed _ c.args.side (omega arith) c.if-parent-eq0.false c.contains.ensures.value, c.if-not-contains.true)

pub returns-else-not-contains : goal.returns-else-not-contains
returns-else-not-contains c =
    rw (of_node c.args.forest.listed _ c.args.side (omega arith) c.if-parent-eq0.false c.contains.ensures.value, c.if-not-contains.false) (cc)

-- The sizes of the subtrees of an accepted table, filled in from the last node of a whole breadth-first order to the first. Rests on Accepted, Order
-- and Reached.
use mathlib.Core.Path.{◌≡◌, refl, sym, ap, ◌∙◌}
use mathlib.Core.Logic.{◌⊎◌, inl, inr, ⊎_elim}
use mathlib.Core.List.{List, reverse}
use Prim.Native.Nat.{ℕ, zero, suc, ◌+◌, ◌-◌, ◌<◌}
use native.Mathlib.Numerals.{add-one}
use native.Mathlib.Omega.{arith}
use native.Mathlib.Decide.{ℕ_discrete}
use lib.Dec.{T}
use lib.ListN.{length, get_or, drop, set, length-set}
use lib.Seq.{drop-cons, get_or-set_same, get_or-set_other}
use Rattle.std.proofs.lemmas.List.{get_or_default, get_or-reverse, length-reverse}
use Rattle.table.specs.Lists.{member}
use Rattle.table.specs.Table.{Side, left, right, link_of, chain}
use Rattle.table.specs.Tree.{size, tree_at}
use Rattle.table.specs.Refusal.{fault}
use Rattle.trees.specs.inner.Steps.{Queue, Fillable, Filled}
use Rattle.table.proofs.Lists.{member_cons}
use Rattle.table.proofs.Accepted.{records_bounds, chain_within, chain_length, links_chained, size_node, size_below, tree_none}
use Rattle.trees.proofs.Order.{queue_chained}
use Rattle.trees.proofs.Reached.{later}

module _ (t order : List ℕ) (ok : fault t ≡ 0) (q : Queue t (length order) order) where
  module _ (i : ℕ) (lt : i < length order) where
    chained : T (member (get_or order i 0) (chain t))
    chained = queue_chained t (length order) order q i lt

    few : (s : Side) → link_of t s (get_or order i 0) < 4097
    few s =
        ⊎_elim (λ (z : link_of t s (get_or order i 0) ≡ 0). omega arith)
        (λ (m : T (member (link_of t s (get_or order i 0)) (chain t))). omega (arith, chain_within t ok _ m, records_bounds t ok))
        (links_chained t ok (get_or order i 0) s chained)

    -- With the sizes of all later nodes, those of the children are there.
    module _ (sizes : List ℕ) (f : Filled t (drop (suc i) order) sizes) where
      child_size : (s : Side) → get_or sizes (link_of t s (get_or order i 0)) 0 ≡ size (tree_at t (link_of t s (get_or order i 0)))
      unfolding size
      child_size s = go (link_of t s (get_or order i 0)) refl
        where
          go : (k : ℕ) → link_of t s (get_or order i 0) ≡ k → get_or sizes k 0 ≡ size (tree_at t k)
          go zero e = f.none ∙ sym (ap size (tree_none t))
          go (suc k) e = f.sized (suc k) (rw e at (later t order q i s lt (omega arith)))

      fillable : Fillable t (get_or order i 0) sizes
      fillable = record {
        long = f.long;
        inside = (chain_within t ok (get_or order i 0) chained).1;
        room = (records_bounds t ok).1;
        left_room = few left;
        right_room = few right;
        sum = omega (arith, child_size left, child_size right, size_node t ok (get_or order i 0) chained);
        few = omega (arith, size_below t ok (get_or order i 0) chained, chain_length t ok, records_bounds t ok);
      }

      filled : (after : List ℕ) → after ≡ set sizes (get_or order i 0) (size (tree_at t (get_or order i 0))) → Filled t (drop i order) after
      filled after e = rw e (record {
        long = simp length-set f.long;
        sized = λ k m. go k (ℕ_discrete k (get_or order i 0)) ((member_cons k (get_or order i 0) (drop (suc i) order)).0 (rw (drop-cons order i 0 lt) at m));
        none = get_or-set_other sizes (get_or order i 0) 0 _ 0 (λ z. omega (arith, chain_within t ok (get_or order i 0) chained)) ∙ f.none;
      })
        where
          go : (k : ℕ) → Dec (k ≡ get_or order i 0) → (k ≡ get_or order i 0) ⊎ T (member k (drop (suc i) order)) →
              get_or (set sizes (get_or order i 0) (size (tree_at t (get_or order i 0)))) k 0 ≡ size (tree_at t k)
          go k (yes d) m = rw d (get_or-set_same sizes (get_or order i 0) _ 0 (omega (arith, fillable.inside, fillable.room, f.long)))
          go k (no d) (inl m) = absurd (d m)
          go k (no d) (inr m) = get_or-set_other sizes (get_or order i 0) k _ 0 d ∙ f.sized k m

  -- The node that n nodes of the order come after.
  module _ (n k : ℕ) (turn : (n < length (reverse order)) × (k ≡ get_or (reverse order) n k))
      (sizes : List ℕ) (f : Filled t (drop (length order - n) order) sizes) where
    ahead : n < length order
    ahead = omega (arith, turn.0, length-reverse order)

    here : k ≡ get_or order (length order - suc n) 0
    here = turn.1 ∙ get_or-reverse order n k ahead ∙ ap (λ (i : ℕ). get_or order i k) (omega arith)
        ∙ get_or_default order (length order - suc n) k 0 (omega (arith, ahead))

    later_filled : Filled t (drop (suc (length order - suc n)) order) sizes
    later_filled = let e : length order - n ≡ suc (length order - suc n) = omega (arith, ahead) in rw e at f

    pub fill_ready : Fillable t k sizes
    fill_ready = rw here (fillable (length order - suc n) (omega (arith, ahead)) sizes later_filled)

    pub fill_more : (after : List ℕ) → after ≡ set sizes k (size (tree_at t k)) → Filled t (drop (length order - (n + 1)) order) after
    fill_more after e = rw add-one (filled (length order - suc n) (omega (arith, ahead)) sizes later_filled after (rw here at e))

-- The trees of a table drawn one after the other, from the first root to the last: what is left of them gives what all of them give. Rests on the laws of
-- accepted tables and of the drawing of several trees.
use mathlib.Core.Path.{◌≡◌, refl, ap, sym, ◌∙◌}
use mathlib.Core.Logic.{inr}
use mathlib.Core.List.{List, [], ◌∷◌, map}
use Prim.Native.Nat.{ℕ, suc, ◌+◌, ◌-◌, ◌≤◌, ◌<◌, max}
use native.Mathlib.Decide.{dec_lt}
use native.Mathlib.Numerals.{add-one}
use native.Mathlib.Omega.{arith}
use lib.ListN.{length, get_or, drop, drop_of_length-le}
use lib.Seq.{drop-cons}
use Rattle.table.specs.Table.{left, root_of, chain, Chained}
use Rattle.table.specs.Tree.{Tree, size, tree_at}
use Rattle.table.specs.Trees.{roots, trees, nodes_of}
use Rattle.table.specs.Refusal.{fault}
use Rattle.table.proofs.Chain.{length_trees}
use Rattle.records.proofs.Scan.{member_at}
use Rattle.table.proofs.Causes.{roots_chained}
use Rattle.table.proofs.Accepted.{records_bounds, chain_within, nodes_length, size_below, size_node}
use Rattle.layout.specs.Layout.{Layout, width, height, shift}
use Rattle.layout.specs.Spine.{facing}
use Rattle.layout.specs.Drawing.{draw}
use Rattle.layout.specs.Trees.{draw_from, draw_trees, width_of, height_of}
use Rattle.layout.specs.inner.Held.{hung_on, height_on, width_on}
use Rattle.layout.proofs.Held.{height_size, hung_shift}
use Rattle.layout.proofs.Width.{width_small}
use Rattle.layout.proofs.Stacked.{width_first, height_first}
use Rattle.roles.specs.inner.Sized.{Sized}
use Rattle.roles.specs.inner.Prepared.{Prepared}
use Rattle.drawing.specs.Answer.{store, store_all}
use Rattle.drawing.specs.inner.Placing.{Drawable, SubtreeDrawn, Led, TreesDrawn}
use Rattle.drawing.proofs.Whole.{few_nodes}

-- The trees from root i on.
abbrev pub rest : List ℕ → ℕ → List Tree
rest t i = map (tree_at t) (drop i (roots t))

-- The width so far, the first row below, the nodes that are left, the root that is next, and the placements.
pub record Stacking (t p₀ : List ℕ) (w top unplaced i : ℕ) (p : List ℕ) : Type 0 where
  pub left : unplaced ≡ length (nodes_of (rest t i))
  pub stored : store_all (draw_from top (rest t i)) p ≡ store_all (draw_trees (trees t)) p₀
  pub wide : max w (width_of (draw_from top (rest t i))) ≡ width_of (draw_trees (trees t))
  pub high : max top (height_of (draw_from top (rest t i))) ≡ height_of (draw_trees (trees t))
  pub room : top + unplaced ≤ length (chain t)
  pub long : length p ≡ length p₀

-- One tree more.
stored_next : (a : Tree) (ts : List Tree) (p p' : List ℕ) (top below : ℕ) → below ≡ top + height (draw a) → p' ≡ store (shift 0 top (draw a)) p →
    store_all (draw_from below ts) p' ≡ store_all (draw_from top (a ∷ ts)) p
unfolding draw_from store_all
stored_next a ts p p' top below e f = rw (e, f)

wide_next : (a : Tree) (ts : List Tree) (w v top below : ℕ) → below ≡ top + height (draw a) → v ≡ max w (width (draw a)) →
    max v (width_of (draw_from below ts)) ≡ max w (width_of (draw_from top (a ∷ ts)))
wide_next a ts w v top below e f = rw (e, f) (omega (arith, width_first top a ts))

high_next : (a : Tree) (ts : List Tree) (top below : ℕ) → below ≡ top + height (draw a) →
    max below (height_of (draw_from below ts)) ≡ max top (height_of (draw_from top (a ∷ ts)))
high_next a ts top below e = rw e (sym (height_first top a ts))

module _ (t : List ℕ) (ok : fault t ≡ 0) (c : Chained t (root_of t)) where
  pub stack_start : (n : ℕ) (p : List ℕ) → n ≡ length (chain t) → Stacking t p 0 0 n 0 p
  stack_start n p e = record { left = e ∙ sym (nodes_length t ok); stored = refl; wide = omega arith; high = omega arith; room = omega arith; long = refl }

  -- The next root, while there is one.
  here : (i : ℕ) → i < length (roots t) → Chained t (get_or (roots t) i 0)
  here i h = roots_chained t c (get_or (roots t) i 0) (member_at (roots t) i h)

  next : (i : ℕ) → i < length (roots t) → rest t i ≡ tree_at t (get_or (roots t) i 0) ∷ rest t (suc i)
  next i h = ap (map (tree_at t)) (drop-cons (roots t) i 0 h)

  next_size : (i : ℕ) → i < length (roots t) → length (nodes_of (rest t i)) ≡ size (tree_at t (get_or (roots t) i 0)) + length (nodes_of (rest t (suc i)))
  next_size i h = ap (λ (ts : List Tree). length (nodes_of ts)) (next i h) ∙ length_trees (tree_at t (get_or (roots t) i 0)) (rest t (suc i))

  some_size : (k : ℕ) → Chained t k → 1 ≤ size (tree_at t k)
  some_size k h = omega (arith, size_node t ok k h)

  module _ {p₀ p : List ℕ} {w top unplaced i : ℕ} (g : Stacking t p₀ w top unplaced i p) where
    -- Some nodes are left: so is a root.
    stack_inside : 0 < unplaced → i < length (roots t)
    unfolding nodes_of
    stack_inside h = go (dec_lt i (length (roots t)))
      where
        go : Dec (i < length (roots t)) → i < length (roots t)
        go (yes l) = l
        go (no n) = absurd (omega (
          arith,
          g.left,
          ap (λ (ks : List ℕ). length (nodes_of (map (tree_at t) ks))) (drop_of_length-le (roots t) {i = i} (omega arith)),
        ))

    -- No root is left, or no node: all trees are drawn.
    pub stack_done : length (roots t) ≤ i → TreesDrawn t p₀ w top p
    unfolding draw_from width_of height_of store_all
    stack_done n =
        let e : rest t i ≡ [] = ap (map (tree_at t)) (drop_of_length-le (roots t) {i = i} n) in
        record {
          width = omega (arith, g.wide, ap (λ (ts : List Tree). width_of (draw_from top ts)) e);
          height = omega (arith, g.high, ap (λ (ts : List Tree). height_of (draw_from top ts)) e);
          stored = sym (ap (λ (ts : List Tree). store_all (draw_from top ts) p) e) ∙ g.stored;
        }

    pub stack_end : unplaced ≤ 0 → TreesDrawn t p₀ w top p
    stack_end h = go (dec_lt i (length (roots t)))
      where
        go : Dec (i < length (roots t)) → TreesDrawn t p₀ w top p
        go (yes l) = absurd (omega (arith, g.left, next_size i l, some_size (get_or (roots t) i 0) (here i l)))
        go (no n) = stack_done (omega arith)

    -- The next root, as the order has it.
    module _ (some : 0 < unplaced) (order : List ℕ) (led : Led t order) (k : ℕ) (is : k ≡ get_or order i 0) where
      inside : i < length (roots t)
      inside = stack_inside some

      at_root : k ≡ get_or (roots t) i 0
      at_root = is ∙ led.led i inside

      pub stack_chained : Chained t k
      stack_chained = rw at_root (here i inside)

      same_size : size (tree_at t k) ≡ size (tree_at t (get_or (roots t) i 0))
      same_size = ap (λ (j : ℕ). size (tree_at t j)) at_root

      -- It is a record; its tree has nodes, and no more than are left, and the list says how many.
      pub stack_record : (0 < k) × (k < 4097)
      stack_record = let within = chain_within t ok k stack_chained in (omega (arith, within), omega (arith, within, records_bounds t ok))

      stack_size : (1 ≤ size (tree_at t k)) × (size (tree_at t k) ≤ unplaced)
      stack_size = (some_size k stack_chained, omega (arith, g.left, next_size i inside, same_size))

      pub stack_sized : (sizes : List ℕ) → Sized t sizes → get_or sizes k 0 ≡ size (tree_at t k)
      stack_sized sizes z = z.sized k (inr stack_chained)

      pub stack_taken : (sizes : List ℕ) → Sized t sizes → (1 ≤ get_or sizes k 0) × (get_or sizes k 0 ≤ unplaced)
      stack_taken sizes z = rw (stack_sized sizes z) stack_size

      -- It may be drawn from any row down to the next one.
      pub stack_drawable : (roles widest : List ℕ) (r : ℕ) → r ≤ top → Prepared roles widest left (tree_at t k) →
          Drawable t roles widest left k 0 0 r
      stack_drawable roles widest r h q =
          let few : size (tree_at t k) ≤ 4096 = omega (arith, size_below t ok k stack_chained, few_nodes t ok) in
          record {
            named = inr stack_chained;
            prepared = q;
            columns = omega (arith, width_small left (tree_at t k) few);
            rows = omega (arith, height_size left (tree_at t k), stack_size, g.room, few_nodes t ok);
          }

      pub stack_step : (sizes : List ℕ) → Sized t sizes → (v below n : ℕ) (p' : List ℕ) → v ≡ max w (width_on left (tree_at t k)) →
          SubtreeDrawn t left k 0 top p below p' → n ≡ unplaced - get_or sizes k 0 →
          length p' ≡ length p → Stacking t p₀ v below n (i + 1) p'
      unfolding width_on height_on facing
      stack_step sizes z v below n p' wide d e long =
          let m = at_root in
          let a = tree_at t (get_or (roots t) i 0) in
          let b : below ≡ top + height (draw a) = d.ends ∙ ap (λ (j : ℕ). top + height (draw (tree_at t j))) m in
          let q : p' ≡ store (shift 0 top (draw a)) p = d.stored ∙ ap (λ (L : Layout). store L p) (ap (λ (j : ℕ). hung_at j) m ∙ hung_shift top a) in
          let x : v ≡ max w (width (draw a)) = wide ∙ ap (λ (j : ℕ). max w (width (draw (tree_at t j)))) m in
          let f = next i inside in
          rw add-one (record {
            left = omega (arith, e, stack_sized sizes z, g.left, next_size i inside, same_size);
            stored = stored_next a (rest t (suc i)) p p' top below b q ∙ (ap (λ (ts : List Tree). store_all (draw_from top ts) p) (sym f) ∙ g.stored);
            wide = wide_next a (rest t (suc i)) w v top below b x ∙ (ap (λ (ts : List Tree). max w (width_of (draw_from top ts))) (sym f) ∙ g.wide);
            high = high_next a (rest t (suc i)) top below b ∙ (ap (λ (ts : List Tree). max top (height_of (draw_from top ts))) (sym f) ∙ g.high);
            room = omega (arith, d.ends, height_size left (tree_at t k), e, stack_sized sizes z, stack_size, g.room);
            long = long ∙ g.long;
          })
        where
          hung_at : ℕ → Layout
          hung_at j = hung_on left 0 top (tree_at t j)

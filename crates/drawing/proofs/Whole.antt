-- The trees of a table: what is asked before they are drawn, and the drawer's answer from what is drawn. Rests on the laws of accepted tables and of the
-- drawing.
use mathlib.Core.Path.{◌≡◌, ap, sym, ◌∙◌}
use mathlib.Core.Logic.{inl, inr, ⊎_elim}
use mathlib.Core.List.{List, [], ◌∷◌, ◌++◌}
use Prim.Native.Nat.{ℕ, ◌*◌, ◌≤◌, ◌<◌}
use native.Mathlib.Omega.{arith}
use lib.ListN.{length, get_or, take, length-append, get_or-append}
use lib.Seq.{get_or-take, length-take-le}
use Rattle.table.specs.Lists.{select}
use Rattle.table.specs.Table.{records, root_of, chain}
use Rattle.table.specs.Tree.{Tree, none, size, tree_at}
use Rattle.table.specs.Trees.{roots, trees, nodes_of}
use Rattle.table.specs.Refusal.{fault, refusal}
use Rattle.std.specs.Prelude.{Result, Ok, IsErrAnd}
use Rattle.table.specs.declared.Refusal.{Refusal}
use Rattle.table.specs.Cause.{number_of}
use Rattle.table.proofs.Refused.{some_number, passed_on}
use Rattle.records.specs.inner.Reading.{Traced, Read, ReadOf}
use Rattle.table.proofs.Lists.{within_one, length_within}
use Rattle.table.proofs.Accepted.{refusal_none, tree_none, records_bounds, chain_length, root, nodes_length}
use Rattle.layout.specs.Layout.{width, height, shift}
use Rattle.layout.specs.Drawing.{draw, drawing}
use Rattle.layout.specs.Trees.{draw_from, draw_trees, width_of, height_of}
use Rattle.layout.proofs.Stacked.{trees_narrow, trees_short}
use Rattle.roles.specs.inner.Sized.{Named, Sized}
use Rattle.drawing.specs.declared.Plan.{Plan}
use Rattle.drawing.specs.Answer.{store, store_all, empty_plan, plan_of, drawn_of, placed_in}
use Rattle.drawing.specs.inner.Told.{told}
use Rattle.drawing.specs.inner.Placing.{Led, TreesDrawn}
use Rattle.drawing.proofs.Answered.{accepted, refused}

module _ (t : List ℕ) (ok : fault t ≡ 0) where
  pub few_nodes : length (chain t) ≤ 4096
  few_nodes = omega (arith, chain_length t ok, records_bounds t ok)

  few_drawn : length (nodes_of (trees t)) ≤ 4096
  few_drawn = omega (arith, nodes_length t ok, few_nodes)

  -- Nodes, width and height are 16-bit numbers.
  pub small_plan : (p p' : List ℕ) (n w h : ℕ) → n ≡ length (chain t) → TreesDrawn t p w h p' → (n ≤ 4096) × ((w ≤ 37) × (h ≤ 4096))
  small_plan p p' n w h f d = (
    omega (arith, few_nodes),
    (
      omega (arith, d.width, trees_narrow (trees t) 0 12 (omega (arith, few_drawn))),
      omega (arith, d.height, trees_short (trees t) 0, few_drawn),
    ),
  )

-- The plan and the placements of what is drawn.
pub plan_drawn : (t p p' : List ℕ) (n w h : ℕ) → n ≡ length (chain t) → TreesDrawn t p w h p' →
    (◌≡◌ {A = Plan} (record { nodes = n; width = w; height = h }) (plan_of t)) × (p' ≡ store_all (draw_trees (trees t)) p)
unfolding plan_of
plan_drawn t p p' n w h f d = (
  let x : w ≡ width_of (draw_trees (trees t)) = d.width in
      let y : h ≡ height_of (draw_trees (trees t)) = d.height in
      cc,
  d.stored,
)

-- What reading leaves for measuring and placing.
pub sizes_listed : (t : List ℕ) (n : ℕ) (list order sizes : List ℕ) → Read t n list order sizes → length sizes ≡ 4097 → Sized t sizes
unfolding size
sizes_listed t n list order sizes l e = record { long = e; sized = at }
  where
    at : (k : ℕ) → Named t k → get_or sizes k 0 ≡ size (tree_at t k)
    at k (inl z) = ap (λ (m : ℕ). get_or sizes m 0) z ∙ (l.none ∙ sym (ap (λ (m : ℕ). size (tree_at t m)) z ∙ ap size (tree_none t)))
    at k (inr c) = l.sized k c

-- A table that is not refused has no fault, and the placements are enough.
pub read_accepted : (t : List ℕ) (places n : ℕ) (list order sizes : List ℕ) → ReadOf t places (Ok n) list order sizes →
    (fault t ≡ 0) × (2 * records t ≤ places)
read_accepted t places n list order sizes d = (refusal_none t places).0 (sym d.refusal)

-- The roots lead the order.
first_there : (ks rs others : List ℕ) (n : ℕ) → take n ks ≡ rs ++ others → n ≤ length ks →
    (length rs ≤ n) × ((i : ℕ) → i < length rs → get_or ks i 0 ≡ get_or rs i 0)
first_there ks rs others n e h =
    (within, λ i l. sym (get_or-take n ks i 0 (omega (arith, within))) ∙ (ap (λ (j : List ℕ). get_or j i 0) e ∙ get_or-append rs others 0 i l))
  where
    within : length rs ≤ n
    within = omega (arith, ap length e, length-append rs others, length-take-le n ks h)

pub roots_lead : (t : List ℕ) (n : ℕ) (list order : List ℕ) → Traced t n list order → (n ≡ 0 → ⊥) → Led t order
roots_lead t n list order l some =
    let f = first_there order (roots t) _ n (l.ordered.queued some).listed l.ordered.enough in
    record { long = omega (arith, f.0, l.ordered.enough); led = f.1 }

-- No nodes: one tree, which is none.
pub no_trees : (t : List ℕ) → fault t ≡ 0 → length (chain t) ≡ 0 → trees t ≡ none ∷ []
unfolding select
no_trees t ok e = ⊎_elim
    (λ z. rw (z.0, z.1) (ap (λ (a : Tree). a ∷ []) (tree_none t)))
    (λ c. absurd (omega (arith, length_within (root_of t ∷ []) (chain t) (within_one (root_of t) (chain t) c))))
    (root t ok)

pub nothing_drawn : (t p : List ℕ) → refusal t (length p) ≡ 0 → fault t ≡ 0 → length (chain t) ≡ 0 →
    (told (Ok empty_plan) ≡ drawn_of t p) × (p ≡ placed_in t p)
unfolding told plan_of draw_from shift width_of height_of draw drawing size width height store store_all
nothing_drawn t p r ok e = (
  let w : width_of (draw_trees (trees t)) ≡ 0 = ap (λ (ts : List Tree). width_of (draw_trees ts)) (no_trees t ok e) in
      let h : height_of (draw_trees (trees t)) ≡ 0 = ap (λ (ts : List Tree). height_of (draw_trees ts)) (no_trees t ok e) in
      let q : plan_of t ≡ empty_plan = cc in
      sym ((accepted t p r).drawn ∙ ap (λ (a : Plan). record { refusal = 0; plan = a }) q),
  sym ((accepted t p r).after ∙ ap (λ (ts : List Tree). store_all (draw_trees ts) p) (no_trees t ok e)),
)

-- A refusal, and an accepted table.
pub refusal_drawn : (t p : List ℕ) (e : Refusal) (r : Result Plan Refusal) → IsErrAnd r (λ x. x ≡ e) → number_of e ≡ refusal t (length p) →
    (told r ≡ drawn_of t p) × (p ≡ placed_in t p)
unfolding told
refusal_drawn t p e r passed n =
    let d = refused t p (λ z. some_number e (n ∙ z)) in
    (rw (passed_on r e passed) (ap (λ (m : ℕ). record { refusal = m; plan = empty_plan }) n ∙ sym d.drawn), sym d.after)

pub plan_answered : (t p p' : List ℕ) (a : Plan) → refusal t (length p) ≡ 0 → (a ≡ plan_of t) × (p' ≡ store_all (draw_trees (trees t)) p) →
    (told (Ok a) ≡ drawn_of t p) × (p' ≡ placed_in t p)
unfolding told
plan_answered t p p' a r d = (ap (λ (b : Plan). record { refusal = 0; plan = b }) d.0 ∙ sym (accepted t p r).drawn, d.1 ∙ sym (accepted t p r).after)

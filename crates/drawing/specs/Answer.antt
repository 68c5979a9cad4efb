-- The drawer's whole answer for any bytes and placements: refusal, plan, and every placement afterwards (document 01, "The rack table", "How the contracts
-- bind"; document 02, Paper 8).
use Rattle.std.specs.Prelude.{◌≡◌, true, false, List, [], ◌∷◌, ℕ, ◌*◌, ◌/◌, ◌≤◌, ◌<◌, eqb, length, get_or}
use Rattle.placements.specs.Placements.{with_point}
use Rattle.table.specs.Table.{records, chain, Chained}
use Rattle.table.specs.Trees.{trees}
use Rattle.table.specs.Refusal.{refusal}
use Rattle.table.specs.Said.{kept_on_refusal}
use Rattle.table.specs.Cause.{number_or_0}
use Rattle.layout.specs.Layout.{Layout, blank, placed}
use Rattle.layout.specs.Trees.{draw_trees, width_of, height_of}
use Rattle.drawing.specs.declared.Plan.{Plan}
use Rattle.drawing.specs.declared.Drawn.{Drawn as CodeDrawn}

-- "The drawer writes only the entries of chained boxes": the point of each node of a drawing
unfoldable pub store : Layout → List ℕ → List ℕ
store blank p = p
store (placed k P a b) p = store b (store a (with_point k P.column P.row p))

-- Several drawings, one after the other.
unfoldable pub store_all : List Layout → List ℕ → List ℕ
store_all [] p = p
store_all (L ∷ Ls) p = store_all Ls (store L p)

-- "the empty plan (0 boxes, width 0, height 0)"
abbrev pub empty_plan : Plan
empty_plan = record { nodes = 0; width = 0; height = 0 }

-- The plan of a table: the records on the chain, and the extents of the drawings of its trees.
unfoldable pub plan_of : List ℕ → Plan
plan_of t = record { nodes = length (chain t); width = width_of (draw_trees (trees t)); height = height_of (draw_trees (trees t)) }

-- The drawer's answer in the paper's numbers: a refusal and the empty plan, or 0 and the plan.
pub record Drawn : Type 0 where
  pub refusal : ℕ
  pub plan : Plan

-- What the answer of the call says.
unfoldable pub said : CodeDrawn → Drawn
said d = record { refusal = number_or_0 d.refusal; plan = d.plan }

-- What it has to say: the refusal and the plan, the empty plan on a refusal.
unfoldable pub drawn_of : List ℕ → List ℕ → Drawn
drawn_of t p = elim (eqb (refusal t (length p)) 0) [
  | true ↦ record { refusal = 0; plan = plan_of t }
  | false ↦ record { refusal = refusal t (length p); plan = empty_plan }
]

-- Every placement afterwards: all kept on a refusal.
unfoldable pub placed_in : List ℕ → List ℕ → List ℕ
placed_in t p = kept_on_refusal (refusal t (length p)) (store_all (draw_trees (trees t)) p) p

-- "Entries of the head, of unchained records and beyond are kept": of the placements p, which are then q
pub record KeptElsewhere (t p q : List ℕ) : Type 0 where
  pub long : length q ≡ length p
  pub head : (i : ℕ) → i < 2 → get_or q i 0 ≡ get_or p i 0
  pub unchained : (i : ℕ) → (Chained t (i / 2) → ⊥) → get_or q i 0 ≡ get_or p i 0
  pub beyond : (i : ℕ) → 2 * records t ≤ i → get_or q i 0 ≡ get_or p i 0

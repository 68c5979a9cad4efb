-- The exchanged table drawn in place of the table: what drawing it asks (`mirrored_asked`), and its placements, exchanged, are those of the wide drawing
-- (`wide_turned`). Rests on the laws of the exchanged table and on Transposed.
use mathlib.Core.Path.{◌≡◌, refl, sym, ap, ap₂, ◌∙◌}
use mathlib.Core.List.{List, ◌++◌, map}
use Prim.Native.Nat.{ℕ, ◌+◌, ◌*◌, ◌≤◌, ◌<◌}
use native.Mathlib.Omega.{arith}
use lib.Dec.{T}
use lib.ListN.{length, get_or, take, drop}
use lib.Seq.{take_at}
use Rattle.table.specs.Lists.{member}
use Rattle.table.specs.Table.{records, root_of, chain, Chained}
use Rattle.table.specs.Tree.{Tree, size, tree_at}
use Rattle.table.specs.Trees.{trees}
use Rattle.table.specs.Refusal.{fault}
use Rattle.table.proofs.Accepted.{chain_within}
use Rattle.layout.specs.Layout.{mirror}
use Rattle.layout.specs.Trees.{draw_trees, width_of, height_of}
use Rattle.layout.proofs.Rows.{size_mirror}
use Rattle.roles.specs.inner.Sized.{Named, Sized}
use Rattle.drawing.specs.declared.Plan.{Plan}
use Rattle.drawing.specs.Answer.{store_all, plan_of}
use Rattle.drawing.specs.inner.Placing.{Led}
use Rattle.mirror.specs.Exchanged.{exchanged, exchanged_placements, exchange_links, exchange_point, each}
use Rattle.mirror.proofs.Table.{exchanged_length, exchanged_head, exchanged_chain, exchanged_fault, exchanged_tree_at, exchanged_roots, exchanged_trees}
use Rattle.wide.specs.Wide.{transposed, draw_wide}
use Rattle.wide.specs.inner.Planned.{wide_plan_of}
use Rattle.wide.proofs.Transposed.{width_turned, height_turned, turned_stored}

module _ (t : List ℕ) (ok : fault t ≡ 0) where
  mirrored_fault : fault (exchanged t) ≡ 0
  mirrored_fault = exchanged_fault t ∙ ok

  -- A subtree and its mirror image have one size.
  mirrored_sized : (sizes : List ℕ) → Sized t sizes → Sized (exchanged t) sizes
  mirrored_sized sizes s = record { long = s.long; sized = λ k n. at k (rw (exchanged_chain t) at n) }
    where
      at : (k : ℕ) → Named t k → get_or sizes k 0 ≡ size (tree_at (exchanged t) k)
      at k n = s.sized k n ∙ (sym (size_mirror (tree_at t k)) ∙ sym (ap size (exchanged_tree_at t ok k n)))

  -- The roots are the same.
  mirrored_led : (order : List ℕ) → Led t order → Led (exchanged t) order
  mirrored_led order l =
      record {
        long = omega (arith, l.long, ap length (exchanged_roots t ok));
        led = λ i h.
            l.led i (omega (arith, h, ap length (exchanged_roots t ok))) ∙ sym (ap (λ (ks : List ℕ). get_or ks i 0) (exchanged_roots t ok));
      }

  pub wide_turned : (p : List ℕ) → 2 * records t ≤ length p →
      exchanged_placements t (store_all (draw_trees (trees (exchanged t))) p) ≡ store_all (draw_wide (trees t)) p
  unfolding exchanged_placements draw_wide
  wide_turned p long = rw (sym (exchanged_chain t)) (turned_stored (exchanged t) p mirrored_fault (rw (exchanged_length t) long)) ∙
      ap (λ (ts : List Tree). store_all (map transposed (draw_trees ts)) p) (exchanged_trees t ok)

  -- The extents, exchanged.
  pub wide_extents : (width_of (draw_trees (trees (exchanged t))) ≡ height_of (draw_wide (trees t))) ×
      (height_of (draw_trees (trees (exchanged t))) ≡ width_of (draw_wide (trees t)))
  unfolding draw_wide
  wide_extents =
      let e = exchanged_trees t ok in (
        ap (λ (ts : List Tree). width_of (draw_trees ts)) e ∙ sym (height_turned (draw_trees (map mirror (trees t)))),
        ap (λ (ts : List Tree). height_of (draw_trees ts)) e ∙ sym (width_turned (draw_trees (map mirror (trees t)))),
      )

-- ---- for the code: a copy of the table is exchanged and drawn

-- The copy's first bytes.
pub copied_front : (t b d : List ℕ) → b ≡ t ++ d → take (length t) b ≡ t
copied_front t b d e = rw e (take_at t d (length t) refl)

-- The same, when its chained records are exchanged.
pub mirrored_copy : (t b c ks : List ℕ) → take (length t) b ≡ t → ks ≡ chain t → c ≡ each exchange_links ks (take (length t) b) →
    take (length t) (c ++ drop (length t) b) ≡ exchanged t
unfolding exchanged
mirrored_copy t b c ks same listed e = take_at c (drop (length t) b) (length t) (ap length whole ∙ exchanged_length t) ∙ whole
  where
    whole : c ≡ exchanged t
    whole = rw (same, listed) at e

-- The listed records: within the table, and with room among the placements.
pub listed_within : (t u ks : List ℕ) → fault t ≡ 0 → u ≡ t → ks ≡ chain t → (k : ℕ) → T (member k ks) → k < records u
listed_within t u ks ok same listed k m = rw same (chain_within t ok k (rw listed at m)).1

pub listed_room : (t ks : List ℕ) (places long : ℕ) → fault t ≡ 0 → 2 * records t ≤ places → long ≡ places → ks ≡ chain t → (k : ℕ) → T (member k ks) →
    2 * k + 1 < long
listed_room t ks places long ok room same listed k m = omega (arith, room, same, (chain_within t ok k (rw listed at m)).1)

-- What drawing the copy asks.
pub record Asked (u sizes order : List ℕ) : Type 0 where
  pub sound : fault u ≡ 0
  pub sized : Sized u sizes
  pub chained : Chained u (root_of u)
  pub led : Led u order

pub mirrored_asked : (t u sizes order : List ℕ) → fault t ≡ 0 → u ≡ exchanged t → Chained t (root_of t) → Sized t sizes → Led t order → Asked u sizes order
mirrored_asked t u sizes order ok e root sized led = rw e (record {
  sound = mirrored_fault t ok;
  sized = mirrored_sized t ok sizes sized;
  chained = rw (exchanged_chain t, exchanged_head t 1 (omega arith)) root;
  led = mirrored_led t ok order led;
})

pub mirrored_room : (t u : List ℕ) (places : ℕ) → u ≡ exchanged t → 2 * records t ≤ places → 2 * records u ≤ places
mirrored_room t u places e room = rw (e, exchanged_length t) room

pub mirrored_nodes : (t u nodes : List ℕ) → u ≡ exchanged t → nodes ≡ chain t → length nodes ≡ length (chain u)
mirrored_nodes t u nodes e listed = rw (e, exchanged_chain t) (ap length listed)

-- What it gives, when the placements are exchanged too.
pub wide_planned : (t u p p' p'' ks : List ℕ) (a : Plan) → fault t ≡ 0 → 2 * records t ≤ length p → u ≡ exchanged t → ks ≡ chain t →
    (a ≡ plan_of u) × (p' ≡ store_all (draw_trees (trees u)) p) →
    p'' ≡ each exchange_point ks p' →
    (◌≡◌ {A = Plan} (record { nodes = a.nodes; width = a.height; height = a.width }) (wide_plan_of t)) × (p'' ≡ store_all (draw_wide (trees t)) p)
unfolding plan_of wide_plan_of exchanged_placements
wide_planned t u p p' p'' ks a ok long e listed d f = (
  let x : a.nodes ≡ length (chain t) = ap (λ (b : Plan). b.nodes) d.0 ∙ (ap (λ (v : List ℕ). length (chain v)) e ∙ ap length (exchanged_chain t)) in
      let y : a.height ≡ width_of (draw_wide (trees t)) = ap (λ (b : Plan). b.height) d.0 ∙
      (ap (λ (v : List ℕ). height_of (draw_trees (trees v))) e ∙ (wide_extents t ok).1) in
      let z : a.width ≡ height_of (draw_wide (trees t)) = ap (λ (b : Plan). b.width) d.0 ∙
      (ap (λ (v : List ℕ). width_of (draw_trees (trees v))) e ∙ (wide_extents t ok).0) in
      cc,
  f ∙ (ap₂ (each exchange_point) listed (d.1 ∙ ap (λ (v : List ℕ). store_all (draw_trees (trees v)) p) e) ∙ wide_turned t ok p long),
)

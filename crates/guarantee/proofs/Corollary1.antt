-- Corollary 1 of document 004, for all bytes and placements: `wide_kept`. Rests on demand 3 of the exchanged table.
use mathlib.Core.Path.{◌≡◌, refl, sym, ap, subst, ◌∙◌}
use mathlib.Core.List.{List}
use Prim.Native.Nat.{ℕ, ◌*◌, ◌≤◌}
use native.Mathlib.Omega.{arith}
use lib.ListN.{length}
use Rattle.table.specs.Table.{records, chain}
use Rattle.table.specs.Trees.{trees}
use Rattle.table.specs.Refusal.{fault, refusal}
use Rattle.table.proofs.Accepted.{refusal_none, chain_distinct}
use Rattle.table.proofs.Saying.{answered_number}
use Rattle.layout.specs.Trees.{draw_trees, width_of, height_of}
use Rattle.drawing.specs.Answer.{Drawn}
use Rattle.drawing.specs.Answer.{store_all, plan_of, placed_in}
use Rattle.drawing.proofs.StoredTrees.{stored_length}
use Rattle.drawing.proofs.Answered.{Accepted, accepted}
use Rattle.mirror.specs.Exchanged.{exchanged, exchanged_placements}
use Rattle.mirror.proofs.Table.{exchanged_chain, exchanged_refusal}
use Rattle.mirror.proofs.Placements.{points_twice}
use Rattle.verdict.specs.Verdict.{Verdict}
use Rattle.width.specs.Allowed.{allowed_width}
use Rattle.guarantee.specs.Demand.{Kept}
use Rattle.guarantee.proofs.Demand3.{kept}
use Rattle.wide.specs.Wide.{draw_wide, wide_of, wide_placed_in}
use Rattle.guarantee.specs.Corollary1.{WideKept}
use Rattle.wide.proofs.Mirrored.{wide_turned, wide_extents, listed_room}
use Rattle.wide.proofs.Answered.{wide_placed}

pub wide_kept : (t p : List ℕ) → (wide_of t p).number ≡ 0 → WideKept t p
unfolding wide_of plan_of exchanged_placements
wide_kept t p e = record {
  good = subst (λ (q : List ℕ). Verdict u q 0) (sym back) k.good;
  low = omega (arith, extents.0, narrow_mirrored);
  bounded = omega (arith, extents.1, short_mirrored);
}
  where
    u : List ℕ
    u = exchanged t

    none : refusal t (length p) ≡ 0
    none = sym (answered_number (refusal t (length p)) _) ∙ e

    ok : fault t ≡ 0
    ok = ((refusal_none t (length p)).0 none).0

    long : 2 * records t ≤ length p
    long = ((refusal_none t (length p)).0 none).1

    extents : (width_of (draw_trees (trees u)) ≡ height_of (draw_wide (trees t))) × (height_of (draw_trees (trees u)) ≡ width_of (draw_wide (trees t)))
    extents = wide_extents t ok

    a : Accepted u p
    a = accepted u p (exchanged_refusal t (length p) ∙ none)

    k : Kept u p
    k = kept u p (ap (λ (d : Drawn). d.refusal) a.drawn)

    narrow_mirrored : width_of (draw_trees (trees u)) ≤ allowed_width (length (chain t))
    narrow_mirrored = rw (sym (exchanged_chain t)) (subst (λ (d : Drawn). d.plan.width ≤ allowed_width (length (chain u))) a.drawn k.narrow)

    short_mirrored : height_of (draw_trees (trees u)) ≤ length (chain t)
    short_mirrored = rw (sym (exchanged_chain t)) (subst (λ (d : Drawn). d.plan.height ≤ length (chain u)) a.drawn k.short)

    -- The wide placements, exchanged, are the plain ones of the exchanged table.
    q : List ℕ
    q = store_all (draw_trees (trees u)) p

    twice : exchanged_placements t (exchanged_placements t q) ≡ q
    twice = points_twice (chain t) q (chain_distinct t ok) (listed_room t (chain t) (length p) (length q) ok long (stored_length (draw_trees (trees u)) p) refl)

    back : exchanged_placements t (wide_placed_in t p) ≡ placed_in u p
    back = ap (exchanged_placements t) (wide_placed t p none ∙ sym (wide_turned t ok p long)) ∙ (twice ∙ sym a.after)

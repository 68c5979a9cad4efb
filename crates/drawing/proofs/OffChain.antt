-- Of records on neither chain "left, right and tag change no answer": of the drawer, `off_chain_drawn`. Rests on that law of tables and on Answered.
use mathlib.Core.Path.{◌≡◌, sym, ap₂, ◌∙◌}
use mathlib.Core.List.{List}
use Prim.Native.Nat.{ℕ}
use native.Mathlib.Decide.{ℕ_discrete}
use lib.ListN.{length}
use Rattle.table.specs.Tree.{Tree}
use Rattle.table.specs.Trees.{trees}
use Rattle.table.specs.Refusal.{refusal}
use Rattle.table.specs.OffChain.{OffChain}
use Rattle.table.proofs.Accepted.{refusal_none}
use Rattle.table.proofs.OffChain.{chain_same, refusal_same, trees_same}
use Rattle.layout.specs.Trees.{draw_trees, width_of, height_of}
use Rattle.drawing.specs.Answer.{plan_of, drawn_of, placed_in}
use Rattle.drawing.proofs.Answered.{accepted, refused}

plan_same : {t u : List ℕ} → OffChain t u → trees u ≡ trees t → plan_of u ≡ plan_of t
unfolding plan_of
plan_same h e = ap₂ (λ (ks : List ℕ) (ts : List Tree). record { nodes = length ks; width = width_of (draw_trees ts); height = height_of (draw_trees ts) })
    (chain_same h) e

pub off_chain_drawn : (t u p : List ℕ) → OffChain t u → (drawn_of u p ≡ drawn_of t p) × (placed_in u p ≡ placed_in t p)
off_chain_drawn t u p h = go (ℕ_discrete (refusal t (length p)) 0)
  where
    same : refusal u (length p) ≡ refusal t (length p)
    same = refusal_same h (length p)

    go : Dec (refusal t (length p) ≡ 0) → (drawn_of u p ≡ drawn_of t p) × (placed_in u p ≡ placed_in t p)
    go (yes e) =
        let a = accepted t p e in
        let b = accepted u p (same ∙ e) in
        let r = trees_same h ((refusal_none t (length p)).0 e).0 in
        (b.drawn ∙ (rw (plan_same h r) (sym a.drawn)), b.after ∙ (rw r (sym a.after)))
    go (no n) =
        let a = refused t p n in
        let b = refused u p (λ e. n (sym same ∙ e)) in
        (b.drawn ∙ (rw same (sym a.drawn)), b.after ∙ sym a.after)

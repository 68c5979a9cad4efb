-- "Tables taken before get the plan they had": of a table with one root the drawer's answer is that of one tree (`one_drawn`), and so of every table
-- that was accepted before document 02, Paper 8 (`drawn_before`), or before Paper 5 (`drawn_first`). Rests on that law of tables, on Answered and on the
-- laws of a single tree (`layout`).
use mathlib.Core.Path.{◌≡◌, ap, ap₂, sym, ◌∙◌}
use mathlib.Core.List.{List, [], ◌∷◌, map}
use Prim.Native.Nat.{ℕ}
use lib.ListN.{length}
use Rattle.table.specs.Table.{root_of, chain}
use Rattle.table.specs.Tree.{tree, tree_at}
use Rattle.table.specs.Trees.{roots, trees}
use Rattle.table.specs.Refusal.{refusal}
use Rattle.before.specs.Tables.{refusal_before, refusal_first}
use Rattle.before.proofs.Tables.{accepted_before, accepted_first}
use Rattle.layout.specs.Layout.{Layout}
use Rattle.layout.specs.Drawing.{draw}
use Rattle.layout.specs.Trees.{draw_trees, width_of, height_of}
use Rattle.layout.proofs.Stacked.{one_tree, width_of_one, height_of_one}
use Rattle.drawing.specs.declared.Plan.{Plan}
use Rattle.drawing.specs.Answer.{store_all, plan_of}
use Rattle.before.specs.Plans.{plan_before, AsBefore}
use Rattle.drawing.proofs.Answered.{accepted}

module _ (t : List ℕ) (one : roots t ≡ root_of t ∷ []) where
  one_layout : draw_trees (trees t) ≡ draw (tree t) ∷ []
  one_layout = ap (λ (ks : List ℕ). draw_trees (map (tree_at t) ks)) one ∙ one_tree (tree t)

  one_plan : plan_of t ≡ plan_before t
  unfolding plan_of plan_before
  one_plan =
      ap₂ (λ (w h : ℕ). record { nodes = length (chain t); width = w; height = h })
      (ap width_of one_layout ∙ sym (width_of_one (draw (tree t))))
      (ap height_of one_layout ∙ sym (height_of_one (draw (tree t))))

  pub one_drawn : (p : List ℕ) → refusal t (length p) ≡ 0 → AsBefore t p
  unfolding store_all
  one_drawn p e =
      let a = accepted t p e in
      record {
        drawn = a.drawn ∙ ap (λ (q : Plan). record { refusal = 0; plan = q }) one_plan;
        after = a.after ∙ ap (λ (Ls : List Layout). store_all Ls p) one_layout;
      }

pub drawn_before : (t p : List ℕ) → refusal_before t (length p) ≡ 0 → AsBefore t p
drawn_before t p e = let a = accepted_before t (length p) e in one_drawn t a.1 p a.0

pub drawn_first : (t p : List ℕ) → refusal_first t (length p) ≡ 0 → AsBefore t p
drawn_first t p e = drawn_before t p (accepted_first t (length p) e)

-- "Tables taken before get the plan they had", drawn wide: of a table that was accepted before document 02, Paper 8, the answer is that of one tree
-- (`wide_before_lem`). Rests on that law of tables, on Answered and on the laws of a single tree (`layout`).
use mathlib.Core.Path.{◌≡◌, ap, ap₂, sym, ◌∙◌}
use mathlib.Core.List.{List, [], ◌∷◌, map}
use Prim.Native.Nat.{ℕ}
use lib.ListN.{length}
use Rattle.table.specs.Table.{chain}
use Rattle.table.specs.Tree.{tree, tree_at}
use Rattle.table.specs.Trees.{trees}
use Rattle.before.specs.Tables.{refusal_before}
use Rattle.before.specs.Plans.{wide_before, WideAsBefore}
use Rattle.before.proofs.Tables.{accepted_before}
use Rattle.table.proofs.Saying.{answered_none}
use Rattle.layout.specs.Layout.{Layout, mirror}
use Rattle.layout.specs.Trees.{width_of, height_of}
use Rattle.layout.proofs.Stacked.{one_tree, width_of_one, height_of_one}
use Rattle.drawing.specs.Answer.{store_all}
use Rattle.wide.specs.Wide.{transposed, draw_wide, wide_of}
use Rattle.wide.proofs.Answered.{wide_placed}

module _ (t p : List ℕ) (ok : refusal_before t (length p) ≡ 0) where
  one_layout : draw_wide (trees t) ≡ wide_before t ∷ []
  unfolding draw_wide
  one_layout = ap (λ (ks : List ℕ). draw_wide (map (tree_at t) ks)) (accepted_before t (length p) ok).1 ∙ ap (map transposed) (one_tree (mirror (tree t)))

  pub wide_before_lem : WideAsBefore t p
  unfolding wide_of store_all
  wide_before_lem =
      let a = (accepted_before t (length p) ok).0 in record {
        says = answered_none _ _ a ∙
            ap₂ (λ (w h : ℕ). record { number = 0; values = length (chain t) ∷ w ∷ h ∷ [] })
            (ap width_of one_layout ∙ sym (width_of_one (wide_before t))) (ap height_of one_layout ∙ sym (height_of_one (wide_before t)));
        after = wide_placed t p a ∙ ap (λ (Ls : List Layout). store_all Ls p) one_layout;
      }

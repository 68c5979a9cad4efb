-- The answer of the call: refused, of the empty tree, and of a plan. Rests on Saying (`table`), what a call says, and Whole (`drawing`), of no trees.
use mathlib.Core.Path.{◌≡◌, sym, ap, ◌∙◌}
use mathlib.Core.Logic.{◌≢◌}
use mathlib.Core.List.{List, [], ◌∷◌}
use Prim.Native.Nat.{ℕ}
use lib.ListN.{length}
use Rattle.table.specs.Table.{chain}
use Rattle.table.specs.Tree.{Tree, none, size}
use Rattle.table.specs.Trees.{trees}
use Rattle.table.specs.Refusal.{fault, refusal}
use Rattle.table.proofs.Saying.{answered_none, answered_refused, lent_made, lent_kept}
use Rattle.layout.specs.Layout.{width, height, shift, mirror}
use Rattle.layout.specs.Drawing.{drawing, draw}
use Rattle.layout.specs.Trees.{draw_from, width_of, height_of}
use Rattle.drawing.specs.declared.Plan.{Plan}
use Rattle.drawing.specs.Answer.{store, store_all, empty_plan}
use Rattle.drawing.proofs.Whole.{no_trees}
use Rattle.std.specs.Prelude.{Result, Ok, IsErrAnd}
use Rattle.table.specs.declared.Refusal.{Refusal}
use Rattle.table.specs.Cause.{number_of}
use Rattle.table.specs.Said.{said_of}
use Rattle.table.proofs.Refused.{some_number, passed_on}
use Rattle.wide.specs.Wide.{transposed, draw_wide, said, wide_of, wide_placed_in}
use Rattle.wide.specs.inner.Planned.{wide_plan_of}

module _ (t p : List ℕ) where
  pub wide_left : refusal t (length p) ≢ 0 → wide_placed_in t p ≡ p
  unfolding wide_placed_in
  wide_left h = sym (lent_kept (refusal t (length p)) _ p h)

  pub wide_refused : (e : Refusal) (r : Result Plan Refusal) → IsErrAnd r (λ x. x ≡ e) → number_of e ≡ refusal t (length p) →
      (said r ≡ wide_of t p) × (p ≡ wide_placed_in t p)
  unfolding said_of wide_of
  wide_refused e r passed n =
      let no : refusal t (length p) ≢ 0 = λ z. some_number e (n ∙ z) in
      (rw (passed_on r e passed, n) (sym (answered_refused (refusal t (length p)) _ no)), sym (wide_left no))

  module _ (unrefused : refusal t (length p) ≡ 0) where
    pub wide_placed : wide_placed_in t p ≡ store_all (draw_wide (trees t)) p
    unfolding wide_placed_in
    wide_placed = sym (lent_made (refusal t (length p)) _ p unrefused)

    pub wide_answered : (p' : List ℕ) (a : Plan) → (a ≡ wide_plan_of t) × (p' ≡ store_all (draw_wide (trees t)) p) →
        (said (Ok a) ≡ wide_of t p) × (p' ≡ wide_placed_in t p)
    unfolding said_of wide_of wide_plan_of
    wide_answered p' a d = (rw d.0 (sym (answered_none (refusal t (length p)) _ unrefused)), d.1 ∙ sym wide_placed)

    pub wide_nothing : fault t ≡ 0 → length (chain t) ≡ 0 → (said (Ok empty_plan) ≡ wide_of t p) × (p ≡ wide_placed_in t p)
    unfolding wide_plan_of draw_wide transposed mirror draw_from shift width_of height_of draw drawing size width height store store_all
    wide_nothing ok e = wide_answered p empty_plan (sym plan, sym (ap (λ (ts : List Tree). store_all (draw_wide ts) p) bare))
      where
        bare : trees t ≡ none ∷ []
        bare = no_trees t ok e

        plan : wide_plan_of t ≡ empty_plan
        plan =
            let w : width_of (draw_wide (trees t)) ≡ 0 = ap (λ (ts : List Tree). width_of (draw_wide ts)) bare in
            let h : height_of (draw_wide (trees t)) ≡ 0 = ap (λ (ts : List Tree). height_of (draw_wide ts)) bare in
            cc

-- The calls one after the other in running code, from what each ensures: a leaf hung and cut off again (`undone`), and the two halves of hanging
-- (`halves`), or refused
-- (`refused`, `unhung`). Rests on the laws of the answers (`hanging`, Answering), on Restored and on Halves.
use mathlib.Core.Path.{◌≡◌, sym, ◌∙◌}
use mathlib.Core.List.{List}
use Prim.Native.Nat.{ℕ, ◌<◌}
use Rattle.std.specs.Prelude.{Result, Ok, Err, IsErrAnd}
use Rattle.table.specs.declared.Refusal.{Refusal}
use Rattle.table.specs.Cause.{refused_by}
use Rattle.table.specs.Writing.{Bytes}
use Rattle.table.proofs.Refused.{passed_on}
use Rattle.hanging.specs.Hanging.{hang_refusal, said, hang_says, after_hang}
use Rattle.hanging.specs.Holding.{held_refusal, after_held}
use Rattle.cutting.specs.Cutting.{cut_refusal, after_cut}
use Rattle.hanging.proofs.Answering.{hang_after, leaf_said, refused_said, refused_kept}
use Rattle.changes.proofs.Restored.{restored, cut_answers}
use Rattle.changes.proofs.Halves.{second_half}

module _ (t : List ℕ) (parent side tag : ℕ) where
  pub halves : (k n : ℕ) (u : List ℕ) → said (Ok k) ≡ hang_says t parent side → n ≡ held_refusal t parent side k → u ≡ after_held t parent side tag k →
      (n ≡ hang_refusal t parent side) × (u ≡ after_hang t parent side tag)
  halves k n u says answers after =
      let l = leaf_said t parent side says in
      let s = second_half t parent side tag k in
      (answers ∙ s.answers l.1, after ∙ s.leaves l.1)

  module _ (u : List ℕ) (left : u ≡ after_hang t parent side tag) where
    pub undone : (k n : ℕ) (v : List ℕ) → said (Ok k) ≡ hang_says t parent side → Bytes t → tag < 65536 → n ≡ cut_refusal u k → v ≡ after_cut u k →
        (n ≡ hang_refusal t parent side) × (v ≡ t)
    undone k n v says b small answers after =
        let l = leaf_said t parent side says in
        let w = left ∙ sym (hang_after t parent side tag l.0) in
        (answers ∙ (rw (w, l.1) (cut_answers t parent side tag l.0)) ∙ sym l.0, after ∙ (rw (w, l.1) (restored t parent side tag b small l.0)))

  -- A refusal of the first call, passed on.
  module _ (e : Refusal) (r : Result Unit Refusal) (p : IsErrAnd r (λ x. x ≡ e)) (says : said (Err e) ≡ hang_says t parent side) where
    pub refused : refused_by r ≡ hang_refusal t parent side
    refused = rw (passed_on r e p) (refused_said t parent side e says).0

    pub unhung : (u : List ℕ) → u ≡ after_hang t parent side tag → u ≡ t
    unhung u left = left ∙ sym (refused_kept t parent side tag e says).1

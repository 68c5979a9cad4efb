-- The whole text at the start of a buffer, by the drawer's answer. Rests on the laws of that answer.
use mathlib.Core.Path.{◌≡◌, refl, sym, ap, ◌∙◌}
use mathlib.Core.Logic.{dite}
use mathlib.Core.List.{List, [], ◌++◌}
use Prim.Native.Nat.{ℕ, ◌≤◌, ◌<◌}
use native.Mathlib.Nat.{zero-add}
use native.Mathlib.Decide.{ℕ_discrete}
use native.Mathlib.Omega.{arith}
use lib.ListN.{length, drop, length-replicate}
use lib.Seq.{sets-eq}
use borrow.Author.Tests.{lt-ltb, le-ltb, eq-eqb, ne_eqb}
use Rattle.table.specs.Table.{chain}
use Rattle.table.specs.Refusal.{refusal, fault}
use Rattle.table.proofs.Accepted.{refusal_none, records_bounds}
use Rattle.std.specs.Prelude.{None, Some}
use Rattle.table.specs.declared.Refusal.{Refusal}
use Rattle.table.specs.Cause.{number_of, number_or_0}
use Rattle.table.proofs.Refused.{some_number}
use Rattle.drawing.specs.declared.Drawn.{Drawn as CodeDrawn}
use Rattle.drawing.specs.Answer.{Drawn, said, plan_of, drawn_of, placed_in}
use Rattle.drawing.proofs.Answered.{accepted, drawn_refusal}
use Rattle.text.specs.Text.{plan_line, node_lines, refused_line, text_from, lent, text_of, text_within}
use Rattle.fields.specs.declared.Writer.{Writer}
use Rattle.fields.specs.inner.Put.{Put}

-- What stands from the start of a buffer on.
pub record Written (text : List ℕ) (a b : Writer) : Type 0 where
  pub same : b.out.ghost_name ≡ a.out.ghost_name
  pub place : b.at ≡ length text
  pub buffer : b.out.now ≡ text ++ drop b.at a.out.now

pub whole : {x y : List ℕ} {a b : Writer} → a.at ≡ 0 → y ≡ x → Put x a b → b.at ≤ length a.out.now → Written y a b
whole {x} {y} {a} {b} z e p h =
    let l : b.at ≡ length x = omega (arith, p.place) in record {
      same = p.same;
      place = rw e l;
      buffer = rw e (rw z at p.stored ∙ sets-eq x a.out.now 0 (omega arith) ∙ rw (zero-add (length x), ← l));
    }

pub text_none : (n : ℕ) (t : List ℕ) → n < 98328 → text_within n t ≡ []
unfolding text_within
text_none n t h = rw (lt-ltb n 98328 h)

module _ (n : ℕ) (t : List ℕ) {d : Drawn} (room : 98328 ≤ n) (drawn : d ≡ drawn_of t lent) where
  text_room : {p : List ℕ} → p ≡ placed_in t lent → text_within n t ≡ text_from t d p
  unfolding text_within text_of
  text_room e = rw (le-ltb n 98328 room, drawn, e)

  pub text_refused : (d.refusal ≡ 0 → ⊥) → text_within n t ≡ refused_line d.refusal
  text_refused e = text_room refl ∙ unfold text_from in rw (text_from, ne_eqb d.refusal 0 e)

  pub text_drawn : {p : List ℕ} → d.refusal ≡ 0 → p ≡ placed_in t lent → text_within n t ≡ plan_line d.plan ++ node_lines t p (chain t)
  text_drawn e q = text_room q ∙ unfold text_from in rw (text_from, eq-eqb d.refusal 0 e)

  -- No refusal: the plan has the nodes of the chain.
  pub not_refused : d.refusal ≡ 0 → refusal t (length lent) ≡ 0
  not_refused e = sym (drawn_refusal t lent) ∙ ap (λ (x : Drawn). x.refusal) (sym drawn) ∙ e

  pub all_nodes : d.refusal ≡ 0 → d.plan.nodes ≡ length (chain t)
  unfolding plan_of
  all_nodes e = ap (λ (x : Drawn). x.plan.nodes) (drawn ∙ (accepted t lent (not_refused e)).drawn)

-- The text of an answer.
module _ (n : ℕ) (t : List ℕ) (room : 98328 ≤ n) where
  pub text_planned : (d : CodeDrawn) {p : List ℕ} → d.refusal ≡ None → said d ≡ drawn_of t lent → p ≡ placed_in t lent →
      text_within n t ≡ plan_line d.plan ++ node_lines t p (chain t)
  unfolding said
  text_planned d z e q = text_drawn n t room e (ap number_or_0 z) q

  pub text_told : (d : CodeDrawn) (r : Refusal) → d.refusal ≡ Some r → said d ≡ drawn_of t lent → text_within n t ≡ refused_line (number_of r)
  unfolding said
  text_told d r z e =
      let number : number_or_0 d.refusal ≡ number_of r = ap number_or_0 z in
      text_refused n t room e (λ x. some_number r (sym number ∙ x)) ∙ ap refused_line number

-- The table of a plan is not refused, and the plan has all its nodes.
pub planned : (t : List ℕ) (d : CodeDrawn) → d.refusal ≡ None → said d ≡ drawn_of t lent → (refusal t (length lent) ≡ 0) × (d.plan.nodes ≡ length (chain t))
unfolding said
planned t d z e = (not_refused 98328 t (omega arith) e (ap number_or_0 z), all_nodes 98328 t (omega arith) e (ap number_or_0 z))

-- The placements lent are enough: the text never says `refused 6`.
pub enough : (t : List ℕ) → refusal t (length lent) ≡ fault t
unfolding refusal
enough t =
    dite (ℕ_discrete (fault t) 0)
    (λ e. (refusal_none t (length lent)).1 (e, omega (arith, records_bounds t e, length-replicate {A = ℕ} 8194 0)) ∙ sym e)
    (λ e. rw (ne_eqb (fault t) 0 e))

-- The ways to an answer: a refusal of the table, pitch 0, a stroke or none.
use mathlib.Core.Path.{◌≡◌, sym, ◌∙◌}
use mathlib.Core.Logic.{◌≢◌}
use mathlib.Core.List.{List}
use Prim.Native.Nat.{ℕ, zero, suc}
use borrow.Author.Tests.{eq-eqb, ne_eqb}
use lib.ListN.{length}
use Rattle.std.specs.Prelude.{Option, Result, Ok, Err, IsErrAnd}
use Rattle.table.specs.declared.Refusal.{Refusal}
use Rattle.table.specs.declared.Refusal.TheVariants.{Pitch}
use Rattle.table.specs.Cause.{number_of}
use Rattle.table.specs.Refusal.{refusal}
use Rattle.table.proofs.Refused.{some_number, passed_on}
use Rattle.pen.specs.declared.strokes.Stroke.{Stroke}
use Rattle.pen.specs.Lines.{lines}
use Rattle.pen.specs.Strokes.{Told, strokes, stroke_at, stroke_refusal, drawn, told, unless_refused, stroke_of}

-- A refusal is told by its number, whatever would have been told without it.
numbered : (e : Refusal) (n : ℕ) (s : Told) → number_of e ≡ n → told (Err e) ≡ unless_refused n s
unfolding told
numbered e zero s h = absurd (some_number e h)
numbered e (suc n) s h = rw h

module _ (t p : List ℕ) (pitch number : ℕ) where
  pub refused : (e : Refusal) (r : Result (Option Stroke) Refusal) → IsErrAnd r (λ x. x ≡ e) → number_of e ≡ refusal t (length p) →
      told r ≡ stroke_of t p pitch number
  unfolding stroke_of
  refused e r q h = rw (passed_on r e q) (numbered e (stroke_refusal t (length p) pitch) (drawn (stroke_at (strokes p pitch (lines t)) number)) first)
    where
      first : number_of e ≡ stroke_refusal t (length p) pitch
      first = h ∙ unfold stroke_refusal in rw (ne_eqb (refusal t (length p)) 0 (λ z. some_number e (h ∙ z)))

  module _ (ok : 0 ≡ refusal t (length p)) where
    pub unpitched : pitch ≡ 0 → told (Err Pitch) ≡ stroke_of t p pitch number
    unfolding stroke_refusal told stroke_of
    unpitched z = rw (sym ok, eq-eqb pitch 0 z)

    pub stroked : pitch ≢ 0 → {s : Option Stroke} → stroke_at (strokes p pitch (lines t)) number ≡ s → told (Ok s) ≡ stroke_of t p pitch number
    unfolding stroke_refusal told stroke_of
    stroked h e = rw (sym ok, ne_eqb pitch 0 h, e)

-- The strokes of the lines of a table: line i gives stroke 2i, a lift to its parent, and stroke 2i + 1, a draw to its child (`line_lift`, `line_draw`); of
-- an accepted table each line does so once (`plotted`), and n nodes, at least 1, in m trees have 2·(n − m) strokes (`strokes_number`). Rests on LineList.
use mathlib.Core.Path.{◌≡◌, refl, ◌∙◌}
use mathlib.Core.List.{List, [], ◌∷◌}
use Prim.Native.Nat.{ℕ, zero, suc, ◌+◌, ◌-◌, ◌*◌, ◌/◌, ◌%◌, ◌≤◌, ◌<◌}
use native.Mathlib.Decide.{dec_lt}
use native.Mathlib.Omega.{arith}
use lib.ListN.{length}
use Rattle.std.specs.Prelude.{Option, Some}
use Rattle.std.specs.Option.{option_map}
use Rattle.table.specs.Table.{Side, chain, Line}
use Rattle.table.specs.Trees.{roots}
use Rattle.table.specs.Refusal.{fault}
use Rattle.table.proofs.Accepted.{some_root}
use Rattle.pen.specs.declared.lines.Ends.{Ends}
use Rattle.pen.specs.declared.strokes.Stroke.TheVariants.{Lift, Draw}
use Rattle.pen.specs.Lines.{lines, line_at}
use Rattle.pen.specs.Strokes.{pen_at, strokes, stroke_at}
use Rattle.pen.specs.Plotted.{PlottedOnce}
use Rattle.pen.specs.inner.Steps.{chosen}
use Rattle.pen.proofs.LineList.{ends, line_listed, line_once, lines_number}

module _ (p : List ℕ) (pitch : ℕ) where
  strokes_length : (ls : List Ends) → length (strokes p pitch ls) ≡ 2 * length ls
  unfolding strokes
  strokes_length [] = refl
  strokes_length (l ∷ ls) = omega (arith, strokes_length ls)

  -- The stroke of a number is that of the line of half the number.
  strokes_at : (ls : List Ends) (n : ℕ) → stroke_at (strokes p pitch ls) n ≡ option_map (λ l. chosen p pitch l n) (line_at ls (n / 2))
  unfolding strokes
  strokes_at [] n = refl
  strokes_at (l ∷ ls) zero = refl
  strokes_at (l ∷ ls) (suc zero) = refl
  strokes_at (l ∷ ls) (suc (suc n)) =
      let d : suc (suc n) / 2 ≡ suc (n / 2) = omega arith in
      let m : suc (suc n) % 2 ≡ n % 2 = omega arith in
      rw (d, m) (strokes_at ls n)

  module _ (t : List ℕ) where
    pub stroke_chosen : (n : ℕ) {o : Option Ends} → o ≡ line_at (lines t) (n / 2) →
        stroke_at (strokes p pitch (lines t)) n ≡ option_map (λ l. chosen p pitch l n) o
    stroke_chosen n e = rw e (strokes_at (lines t) n)

    pub line_lift : (i : ℕ) (l : Ends) → line_at (lines t) i ≡ Some l → stroke_at (strokes p pitch (lines t)) (2 * i) ≡ Some (Lift (pen_at p pitch l.parent))
    line_lift i l e =
        let d : 2 * i / 2 ≡ i = omega arith in
        let m : 2 * i % 2 ≡ 0 = omega arith in
        strokes_at (lines t) (2 * i) ∙ rw (d, m, e)

    pub line_draw : (i : ℕ) (l : Ends) → line_at (lines t) i ≡ Some l →
        stroke_at (strokes p pitch (lines t)) (2 * i + 1) ≡ Some (Draw (pen_at p pitch l.child))
    line_draw i l e =
        let d : (2 * i + 1) / 2 ≡ i = omega arith in
        let m : (2 * i + 1) % 2 ≡ 1 = omega arith in
        strokes_at (lines t) (2 * i + 1) ∙ rw (d, m, e)

module _ (t p : List ℕ) (pitch : ℕ) (ok : fault t ≡ 0) where
  pub plotted : {k c : ℕ} {s : Side} → Line t k s c → PlottedOnce t p pitch k c
  plotted {k} {c} line = record {
    i = place;
    listed = l.1;
    line = l.2;
    lift = line_lift p pitch t place (ends k c) l.2;
    draw = line_draw p pitch t place (ends k c) l.2;
    once = λ j n e. one j e (dec_lt j place) (dec_lt place j);
  }
    where
      l : (i : ℕ) × (i < length (lines t)) × (line_at (lines t) i ≡ Some (ends k c))
      l = line_listed line

      place : ℕ
      place = l.0

      one : (j : ℕ) → line_at (lines t) j ≡ Some (ends k c) → Dec (j < place) → Dec (place < j) → j ≡ place
      one j e (yes a) b = absurd (line_once t ok j place (ends k c) (ends k c) a e l.2 refl)
      one j e (no a) (yes b) = absurd (line_once t ok place j (ends k c) (ends k c) b l.2 e refl)
      one j e (no a) (no b) = omega arith

  -- Two strokes for each node but the roots.
  pub strokes_number : 1 ≤ length (chain t) → length (strokes p pitch (lines t)) ≡ 2 * (length (chain t) - length (roots t))
  strokes_number h = omega (arith, strokes_length p pitch (lines t), lines_number t ok (some_root t ok (length (chain t)) refl (λ e. omega arith)))

-- How a line is plotted: what is proved of each line of an accepted table (document 02, Paper 2).
use Rattle.std.specs.Prelude.{◌≡◌, List, ℕ, ◌+◌, ◌*◌, ◌<◌, length, Some}
use Rattle.pen.specs.declared.strokes.Stroke.TheVariants.{Lift, Draw}
use Rattle.pen.specs.Lines.{lines, line_at}
use Rattle.pen.specs.Strokes.{pen_at, strokes, stroke_at}

-- "Each line gives a lift to the parent and then a draw to the child": the line from k to c is line i, and no other; stroke 2i lifts to k, stroke 2i + 1
-- draws to c
pub record PlottedOnce (t p : List ℕ) (pitch k c : ℕ) : Type 0 where
  pub i : ℕ
  pub listed : i < length (lines t)
  pub line : line_at (lines t) i ≡ Some (record { parent = k; child = c })
  pub lift : stroke_at (strokes p pitch (lines t)) (2 * i) ≡ Some (Lift (pen_at p pitch k))
  pub draw : stroke_at (strokes p pitch (lines t)) (2 * i + 1) ≡ Some (Draw (pen_at p pitch c))
  pub once : (j : ℕ) → j < length (lines t) → line_at (lines t) j ≡ Some (record { parent = k; child = c }) → j ≡ i

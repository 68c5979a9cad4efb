-- Two lines side by side, by cross products of their ends.
use Rattle.std.specs.Prelude.{◌≡◌, ◌⊎◌, ℕ, T, pos}
use Rattle.std.specs.Int.Signed.{lt_z}
use Rattle.segment.specs.declared.Point.{Point}
use Rattle.segment.specs.Segment.{cross}
use Rattle.line.specs.inner.Line.{start_of, end_of}

-- E is an end of the line from P to Q.
abbrev pub Ends : Point → Point → Point → Type 0
Ends E P Q = (E ≡ P) ⊎ (E ≡ Q)

-- R is strictly to the right of it, as it goes down.
abbrev pub Right : Point → Point → Point → Type 0
Right P Q R = T (lt_z (cross P Q R) (pos 0))

-- The line from R to S is to the right of it: each of R and S is, or is an end of it, but not both are ends, unless they are one point.
abbrev pub Beyond : Point → Point → Point → Point → Type 0
Beyond P Q R S = (Ends R P Q × (R ≡ S)) ⊎ ((Ends R P Q ⊎ Right P Q R) × Right P Q S) ⊎ (Right P Q R × Ends S P Q)

-- The line y, as a number, is to the right of the line x, or x of y turned round.
abbrev pub Next : ℕ → ℕ → Type 0
Next x y = Beyond (start_of x) (end_of x) (start_of y) (end_of y) ⊎ Beyond (end_of y) (start_of y) (start_of x) (end_of x)

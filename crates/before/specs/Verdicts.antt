-- The verdict before document 02, Paper 7, and what that request keeps of it.
use Rattle.std.specs.Prelude.{◌↔◌, ◌≢◌, ◌⊎◌, List, [], ◌∷◌, ℕ}
use Rattle.verdict.specs.Conditions.{SamePoint, ChildAbove, Clashing, OutOfOrder}
use Rattle.verdict.specs.Verdict.{Condition, numbered, AnswerBy, Verdict}

-- 21 to 24 as they were, 23 for what is 23 or 25 now
abbrev pub conditions_before : List ℕ → List ℕ → List Condition
conditions_before t p =
    numbered 21 (SamePoint t p) ∷ numbered 22 (ChildAbove t p) ∷ numbered 23 (Clashing t p) ∷ numbered 24 (OutOfOrder t p) ∷ []

abbrev pub VerdictBefore : List ℕ → List ℕ → ℕ → Type 0
VerdictBefore t p v = AnswerBy (conditions_before t p) t p v

pub record Recast (t p : List ℕ) : Type 0 where
  -- "Good sheets are the same ones as before": 0, of the others below
  pub good : VerdictBefore t p 0 ↔ Verdict t p 0
  -- "25 .. covers what else 23 used to cover"
  pub was_23 : VerdictBefore t p 23 ↔ (Verdict t p 23 ⊎ Verdict t p 25)
  -- every other answer is as it was
  pub others : (v : ℕ) → v ≢ 23 → v ≢ 25 → VerdictBefore t p v ↔ Verdict t p v

-- Demand 3 (docs/GROUNDS.md), for the bytes t and the placements p: what an accepted drawing keeps.
use Rattle.std.specs.Prelude.{◌≡◌, ◌≢◌, List, ℕ, ◌≤◌, length}
use Rattle.table.specs.Table.{chain}
use Rattle.drawing.specs.Answer.{said, drawn_of, placed_in}
use Rattle.verdict.specs.Fault.{verdict_number}
use Rattle.verdict.specs.Verdict.{Verdict}
use Rattle.width.specs.Allowed.{allowed_width}
use Rattle.guarantee.specs.declared.Checked.{Checked}

-- An accepted drawing keeps: the check says good of the placements as the drawer left them ("to say good is to answer 0"), the width is at most the allowed
-- width of n, and the height at most n ("Its n is the number of records on the chain"; document 02, Paper 8: "Width and height limits hold with n counting
-- all boxes").
pub record Kept (t p : List ℕ) : Type 0 where
  pub good : Verdict t (placed_in t p) 0
  pub narrow : (drawn_of t p).plan.width ≤ allowed_width (length (chain t))
  pub short : (drawn_of t p).plan.height ≤ length (chain t)

-- The same of the running code, for its answer r and the placements p' afterwards. Accepted: the verdict is 0, and width and height are as in `Kept`
-- (`good`, `narrow` and `short`, in this order). Refused: the verdict is the drawer's refusal, and every placement is as it was lent.
pub record Guaranteed (t p : List ℕ) (r : Checked) (p' : List ℕ) : Type 0 where
  pub drawn : said r.drawn ≡ drawn_of t p
  pub after : p' ≡ placed_in t p
  pub accepted : (said r.drawn).refusal ≡ 0 →
      (verdict_number r.verdict ≡ 0) ×
      (((said r.drawn).plan.width ≤ allowed_width (length (chain t))) × ((said r.drawn).plan.height ≤ length (chain t)))
  pub refused : (said r.drawn).refusal ≢ 0 → (verdict_number r.verdict ≡ (said r.drawn).refusal) × (p' ≡ p)

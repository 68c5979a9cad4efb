-- `guarantee::draw_checked` meets its contract, by `guaranteed`. Assumes nothing.
use Rattle.std.proofs.Common.{◌≡◌, List, ℕ, subst, arith}
use Rattle.verdict.specs.Verdict.{Verdict}
use Rattle.guarantee.proofs.Running.{guaranteed}
use Rattle.guarantee.proofs.draw_checked.Goals as goal

-- The check says its verdict by a number, and so the number alone is to be the same.
same_number : (t p : List ℕ) (n m : ℕ) → Verdict t p n → n ≡ m → Verdict t p m
same_number t p n m verdict e = subst (λ (n : ℕ). Verdict t p n) e verdict

pub returns : goal.returns
returns c =
    let d = c.draw-drawn in
    guaranteed _ _ _ _ _ d.ensures.0 d.ensures.1 (same_number _ _ _ _ c.check-verdict.ensures (grind arith))

-- `exchange_links` exchanges left and right of a record.
use mathlib.Core.Path.{◌≡◌, ◌∙◌}
use mathlib.Core.List.{List}
use Prim.Native.Nat.{ℕ}
use Rattle.table.specs.Table.{left_of, right_of}
use Rattle.table.specs.Writing.{with_word}
use Rattle.mirror.specs.Exchanged.{exchange_links}
use Rattle.mirror.proofs.exchange_links.Goals as goal

-- Both links are read before either is written.
both : (t t₁ t₂ : List ℕ) (k l r : ℕ) → l ≡ left_of t k → r ≡ right_of t k → t₁ ≡ with_word k 1 r t → t₂ ≡ with_word k 2 l t₁ → t₂ ≡ exchange_links k t
unfolding exchange_links
both t t₁ t₂ k l r a b e f = f ∙ (rw (e, a, b))

pub returns : goal.returns
returns c =
    both _ _ _ _ _ _ c.left-l.ensures.0 c.right-r.ensures.0 c.set_word.ensures c.set_word-2.ensures

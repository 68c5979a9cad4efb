-- `same_end`: ends that ascend are the same, or all differ where each does from the one before it. Rests on the laws of neighbours.
use borrow.Author.Rules.{rules}
use Rattle.std.specs.Prelude.{nat_lt}
use Rattle.std.proofs.lemmas.Fn.{always_returns_same}
use Rattle.line.specs.inner.Line.{last}
use Rattle.sort.proofs.Neighbours.{whole_from, some_same}
use Rattle.sweep.proofs.same_end.Goals as goal

pub returns : goal.returns
returns c =
    some_same _ c.requires (c.is_sorted_by.ensures.cases (λ x y. nat_lt (last x) (last y)) (always_returns_same _ _ _ (λ a r f k. search rules)))
    (search (rules, whole_from))

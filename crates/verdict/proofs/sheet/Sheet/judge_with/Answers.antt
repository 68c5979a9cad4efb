-- `judge_with`: the first of 21, 22, 23 and 25, or else 24 or none. Rests on Judged.
use borrow.Author.Rules.{rules}
use Rattle.verdict.proofs.Judged.{some_fault, no_fault, order_fault}
use Rattle.verdict.proofs.sheet.Sheet.judge_with.Goals as goal

pub returns-in-Some : goal.returns-in-Some
returns-in-Some g c = some_fault c.args.self.forest.listed c.list_lines.ensures _ c.in-Some.ensures

pub returns : goal.returns
returns g c = no_fault c.args.self.forest.listed c.list_lines.ensures c.in_default.ensures (order_fault _ c.out_of_order.ensures (search rules))

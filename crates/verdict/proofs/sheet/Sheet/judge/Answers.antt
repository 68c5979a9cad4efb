-- `judge`: a table has at most 4,096 nodes. Rests on the laws of a listed chain.
use native.Mathlib.Omega.{arith}
use Rattle.records.proofs.Nodes.{nodes_few}
use Rattle.verdict.proofs.sheet.Sheet.judge.Goals as goal

pub judge_with-requires-2 : goal.judge_with-requires-2
judge_with-requires-2 c = (omega (arith, nodes_few c.args.self.forest.listed), omega arith, omega arith)

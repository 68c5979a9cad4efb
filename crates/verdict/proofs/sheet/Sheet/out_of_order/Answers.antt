-- `out_of_order`: asked of each node. Rests on Places.
use mathlib.Core.Path.{◌∙◌}
use Rattle.std.proofs.Common.{rules}
use Rattle.std.proofs.lemmas.Iterator.{cases_from_any, YieldsList-from_slice}
use Rattle.std.proofs.lemmas.Iterator.Adapters.{serves_from_places}
use Rattle.std.proofs.lemmas.Grind.{get_or_default_zero}
use Rattle.verdict.specs.inner.Steps.{Placeable, Turned}
use Rattle.verdict.proofs.Turning.{node_placeable}
use Rattle.verdict.proofs.Places.{turned_any}
use Rattle.verdict.proofs.sheet.Sheet.out_of_order.Goals as goal

pub any-requires-clause-callable : goal.any-requires-clause-callable
any-requires-clause-callable c =
    let s = c.args.self in
    serves_from_places (YieldsList-from_slice s.forest.nodes.now (search rules)) (λ x q k. search rules)
    (λ x k h e. let n : Placeable s.forest.table.now s.placements.now x.now =
    rw (e ∙ get_or_default_zero s.forest.nodes.now k x.now h) (node_placeable s.forest.listed k h s.placed) in search rules)

pub returns : goal.returns
returns c =
    let s = c.args.self in
    turned_any s.placements.now s.forest.listed _
    (cases_from_any _ _ _ (Turned s.forest.table.now s.placements.now) (λ k. Turned s.forest.table.now s.placements.now k → ⊥) c.any.ensures.ran
    (YieldsList-from_slice s.forest.nodes.now (search rules)) (λ x q k. search rules) (λ x q k. search rules))

-- `namer_of` answers the chained record whose word names a record.
use mathlib.Core.Path.{◌∙◌}
use Prim.Native.Nat.{◌<◌}
use native.Mathlib.Omega.{arith}
use borrow.Author.Rules.{rules}
use borrow.Author.Tests.{tests}
use lib.Dec.{eqb}
use Rattle.std.proofs.lemmas.List.{get_or_read}
use Rattle.std.proofs.lemmas.Iterator.{YieldsList-from_slice}
use Rattle.std.proofs.lemmas.Iterator.Adapters.{serves_from_places}
use Rattle.std.proofs.lemmas.Iterator.Consumers.{YieldsList-from_copied}
use Rattle.std.proofs.lemmas.Iterator.Search.{find_from_yields_List}
use Rattle.table.specs.Table.{records, word}
use Rattle.records.proofs.Nodes.{node_below}
use Rattle.cutting.proofs.Finding.{found_namer}
use Rattle.cutting.proofs.Hooks.{namer_inside}
use Rattle.cutting.proofs.find.namer_of.Goals as goal

pub find-namer-requires-clause-callable : goal.find-namer-requires-clause-callable
find-namer-requires-clause-callable c =
    serves_from_places (YieldsList-from_copied (YieldsList-from_slice c.args.forest.nodes.now (search rules))) (λ x q k. search rules)
    (λ x k h e. let below : x < records c.args.forest.table.now = omega (arith, node_below c.args.forest.listed k h, get_or_read _ _ _ h e 0) in search rules)

pub returns : goal.returns
returns c =
    let found = find_from_yields_List (λ m. eqb (word c.args.forest.table.now m c.args.j) c.args.k) _ _ c.find-namer.result c.find-namer.ensures.ran
    (YieldsList-from_copied (YieldsList-from_slice c.args.forest.nodes.now (search rules))) (λ x b q k. search (rules, tests)) in
    let named = c.from.ensures ∙ c.unwrap_or.ensures ∙ found_namer c.args.forest.listed c.args.j c.args.k c.find-namer.result found in
    (named, rw named (namer_inside _ _ _ c.args.forest.listed.accepted))

-- `some_taken` answers whether a free record is on the chain or in use.
use mathlib.Core.Path.{◌∙◌}
use mathlib.Core.Bool.{not, ◌||◌}
use lib.Dec.{eqb}
use lib.ListN.{get_or}
use Rattle.std.proofs.Common.{rules, tests}
use Rattle.std.proofs.lemmas.Iterator.{YieldsList-from_slice}
use Rattle.std.proofs.lemmas.Iterator.Adapters.{serves_from_places}
use Rattle.std.proofs.lemmas.Iterator.Search.{any_from_yields_List}
use Rattle.table.specs.Refusal.{occupied}
use Rattle.chains.proofs.Scan.{free_inside, any_taken}
use Rattle.chains.proofs.some_taken.Goals as goal

pub any-requires-clause-callable : goal.any-requires-clause-callable
any-requires-clause-callable c =
    let inside = free_inside _ _ c.requires.listed in
    serves_from_places (YieldsList-from_slice c.args.free.now cc) (λ x q h. search (rules, tests)) (λ x k l e. search (rules, inside))

pub returns : goal.returns
returns c =
    let t = c.args.table.now in
    let mark = c.args.mark.now in
    any_from_yields_List (λ k. not (eqb (get_or mark k 0) 0) || occupied t k) _ _ _ c.any.ensures.ran (YieldsList-from_slice c.args.free.now cc)
    (λ x b q k. search (rules, tests)) ∙ any_taken _ _ _ c.requires.listed c.requires.marked

-- `turned`: a node and its links are records, which have their places (`Placeable`).
use native.Mathlib.Omega.{arith}
use Rattle.table.specs.Table.{left, right}
use Rattle.verdict.proofs.sheet.Sheet.turned.Goals as goal

pub left-l-requires : goal.left-l-requires
left-l-requires c = rw c.from-k.ensures c.requires.inside

pub right-r-requires : goal.right-r-requires
right-r-requires c = rw c.from-k.ensures c.requires.inside

pub at-requires-asks-point-requires : goal.at-requires-asks-point-requires
at-requires-asks-point-requires c = omega (arith, c.from-k.ensures, c.requires.inside, c.requires.places)

pub at-requires-then-r-ne0-asks-point-requires : goal.at-requires-then-r-ne0-asks-point-requires
at-requires-then-r-ne0-asks-point-requires c =
    let l = rw c.from-k.ensures at c.left-l.ensures.0 in
    let r = rw c.from-k.ensures at c.right-r.ensures.0 in
    omega (arith, c.requires.links left, c.requires.links right, c.requires.places)

pub at-requires-then-r-ne0-2-asks-point-requires : goal.at-requires-then-r-ne0-2-asks-point-requires
at-requires-then-r-ne0-2-asks-point-requires c =
    let l = rw c.from-k.ensures at c.left-l.ensures.0 in
    let r = rw c.from-k.ensures at c.right-r.ensures.0 in
    omega (arith, c.requires.links left, c.requires.links right, c.requires.places)

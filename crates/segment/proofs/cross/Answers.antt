-- `segment::cross` meets its contract: its products and their difference fit, since columns and rows are below 65536.
use native.Mathlib.Omega.{arith}
use lib.Dec.{lit<}
use Rattle.segment.proofs.Range.{given, Grid, product_fits, fits_cross, read_cross}
use mir.Syntax.{w64}
use Rattle.segment.proofs.cross.Goals as goal

pub overflow_mul-result : goal.overflow_mul-result
overflow_mul-result c =
    let g : Grid c.args.p × (Grid c.args.a × Grid c.args.b) = omega arith in
    product_fits _ (lit< tt) c.minus.ensures c.minus-2.ensures g.1.0.column< g.0.column< g.1.1.row< g.0.row<

pub overflow_mul-result-2 : goal.overflow_mul-result-2
overflow_mul-result-2 c =
    let g : Grid c.args.p × (Grid c.args.a × Grid c.args.b) = omega arith in
    product_fits _ (lit< tt) c.minus-3.ensures c.minus-4.ensures g.1.0.row< g.0.row< g.1.1.column< g.0.column<

pub overflow_sub-result : goal.overflow_sub-result
overflow_sub-result c =
    let g : Grid c.args.p × (Grid c.args.a × Grid c.args.b) = omega arith in
    let d₁ = c.minus in
    let d₂ = c.minus-2 in
    let d₃ = c.minus-3 in
    let d₄ = c.minus-4 in
    fits_cross _ (lit< tt) g.0 g.1.0 g.1.1 (given w64 d₁.ensures d₁.type_inv) (given w64 d₂.ensures d₂.type_inv) (given w64 d₃.ensures d₃.type_inv)
    (given w64 d₄.ensures d₄.type_inv)

pub returns : goal.returns
returns c =
    let g : Grid c.args.p × (Grid c.args.a × Grid c.args.b) = omega arith in
    let d₁ = c.minus in
    let d₂ = c.minus-2 in
    let d₃ = c.minus-3 in
    let d₄ = c.minus-4 in
    read_cross w64 (lit< tt) g.0 g.1.0 g.1.1 (given w64 d₁.ensures d₁.type_inv) (given w64 d₂.ensures d₂.type_inv) (given w64 d₃.ensures d₃.type_inv)
    (given w64 d₄.ensures d₄.type_inv)

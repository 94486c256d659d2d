use Rattle.std.proofs.Common.{ap₂, arith}
use Rattle.std.proofs.lemmas.Int.{ints}
use Rattle.points.specs.Points.{gaussian}
use Rattle.points.proofs.Reach.{product_is, no_imaginary}
use Rattle.points.proofs.whole.WholeKind.minus_product.Goals as goal

pub returns : goal.returns
returns c =
    let r = c.args.entry.value in
    let s = c.args.point.value in
    let a = product_is r s c.product.result c.requires.entry.re c.requires.point.re c.product.ensures.value in
    ap₂ gaussian (rw (← a) (omega (arith, ints))) (no_imaginary r s)

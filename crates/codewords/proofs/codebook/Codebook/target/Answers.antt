use Rattle.std.proofs.Common.{◌-◌, ◌<◌, arith}
use Rattle.points.specs.Points.{levels}
use Rattle.codewords.proofs.Targets.{one_entry, no_entry}
use Rattle.codewords.proofs.codebook.Codebook.target.Goals as goal

pub loop-k-preserved : goal.loop-k-preserved
loop-k-preserved g c =
    let sh = g.B.Point.Kind.shape in
    let n = levels sh - 1 - c.args.level in
    let right : c.loop-k.k < n = omega (arith, c.requires) in
    let row = c.row-row.ensures sh (omega (arith, c.requires)) in
    one_entry c.loop-k.invariant sh n c.row-row.result.now c.loop-k-test.true right row
    (c.coupling-entry.ensures.value n right) c.point_or_origin.ensures.value
    c.coupling-entry.ensures.near c.point_or_origin.ensures.near c.minus_product-u.ensures

pub returns-clause-value : goal.returns-clause-value
returns-clause-value g c = rw (← c.self.view_is) (no_entry c.loop-k.invariant c.loop-k-test.false)

use Rattle.std.proofs.Common.{arith}
use Rattle.grids.proofs.Weighing.{row_more}
use Rattle.grids.proofs.weigh.least_in_row.Goals as goal

pub loop-column-preserved : goal.loop-column-preserved
loop-column-preserved c ws e h =
    let value = e c.loop-column.column c.loop-column-test.true in
    rw c.lesser-least.ensures (row_more ws c.args.floor c.args.start c.loop-column.column c.loop-column.least c.rank_key.result (omega (arith, value, c.rank_key.ensures.value)) (c.loop-column.invariant ws e h))

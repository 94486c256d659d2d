use Rattle.std.proofs.Common.{length, add-mul, one-mul}
use Rattle.grids.specs.Grids.{sums}
use Rattle.grids.proofs.Weighing.{sums_at}
use Rattle.grids.proofs.weigh.least_key.Goals as goal

pub loop-row-preserved : goal.loop-row-preserved
loop-row-preserved c =
    let rs = c.args.re.now in
    let is = c.args.im.now in
    let i = c.loop-row.row in
    rw (add-mul i 1 (length is), one-mul) (c.least_in_row-least.ensures (sums rs is) (λ j h. sums_at rs is i j c.loop-row-test.true h) c.loop-row.invariant)

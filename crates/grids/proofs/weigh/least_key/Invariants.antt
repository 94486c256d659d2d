use Rattle.std.proofs.Common.{◌*◌, length}
use Rattle.ranks.specs.Keys.{Least}
use Rattle.grids.specs.Grids.{sums}
use Rattle.grids.proofs.weigh.least_key.Given as goal

abbrev pub invariant-loop-row : goal.invariant-loop-row
invariant-loop-row l = Least (sums l.re l.im) l.floor (l.row * length l.im) l.least

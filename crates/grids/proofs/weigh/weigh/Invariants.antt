use Rattle.points.specs.Points.{real}
use Rattle.grids.proofs.Weighing.{Weighed}
use Rattle.grids.proofs.weigh.weigh.Given as goal

-- the amounts that are written
abbrev pub invariant-loop-index : goal.invariant-loop-index
invariant-loop-index g l =
    let ps = g.P.Alphabet.points l.side in
    Weighed ps (real l.re.target.value) l.re.gain l.rows l.index × Weighed ps (real l.im.target.value) l.im.gain l.columns l.index

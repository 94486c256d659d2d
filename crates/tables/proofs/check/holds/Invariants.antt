use Rattle.std.proofs.Common.{◌≡◌, map, drop}
use Rattle.tables.specs.Tables.{among}
use Rattle.tables.proofs.check.holds.Given as goal

-- what is left decides
abbrev pub invariant-loop-other : goal.invariant-loop-other
invariant-loop-other g l =
    let m = g.K.Kind.meaning in
    among (m l.point) (map m l.points) ≡ among (m l.point) (map m (drop l.other-index l.points))

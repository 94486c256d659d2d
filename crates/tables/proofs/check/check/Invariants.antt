use Rattle.std.proofs.Common.{◌≡◌, ◌-◌, map, length}
use Rattle.tables.specs.Tables.{table_fault, points_fault}
use Rattle.tables.proofs.check.check.Given as goal

-- what is left decides
abbrev pub invariant-loop-index : goal.invariant-loop-index
invariant-loop-index g l =
    let pts = map g.K.Kind.meaning l.points in
    table_fault g.K.Kind.shape pts ≡ points_fault pts (length l.points - l.index) l.index

use Rattle.tables.specs.Checks.{none_refused}
use Rattle.tables.specs.Lists.{none_passes}
use Rattle.tables.proofs.list.PointsTryFromRefSlice.try_from.Goals as goal

pub invariant_of-result : goal.invariant_of-result
invariant_of-result g c = record { limits = none_passes (none_refused _ c.in_ok-check.ensures.answer) }

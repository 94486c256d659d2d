use Rattle.tables.specs.Lists.{origin_passes}
use Rattle.tables.proofs.list.Points.origin.Goals as goal

pub invariant_of-result : goal.invariant_of-result
invariant_of-result g c = record { limits = rw c.origin_alone.ensures (origin_passes g.K.Kind.shape) }

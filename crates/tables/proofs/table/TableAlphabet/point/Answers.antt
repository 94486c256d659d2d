use Rattle.std.proofs.Common.{arith}
use Rattle.std.proofs.lemmas.Grind.{common_steps}
use Rattle.tables.proofs.TablesLemmas.{held}
use Rattle.tables.proofs.table.TableAlphabet.point.Goals as goal

pub returns : goal.returns
returns g c =
    let list = c.as_slice-points in
    rw (held g.L.Point.Kind.shape g.L.Point.Kind.meaning list.result.now (g.L.PointList.held c.args.self.now.list) list.ensures.list list.ensures.kept) (grind (arith, common_steps))

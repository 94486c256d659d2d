use Rattle.tables.proofs.TablesLemmas.{table_size}
use Rattle.tables.proofs.table.TableAlphabet.size.Goals as goal

pub returns : goal.returns
returns g c = table_size g.L.Point.Kind.shape g.L.Point.Kind.meaning c.as_slice.result.now (g.L.PointList.held c.args.self.now.list) c.as_slice.ensures.list c.as_slice.ensures.kept

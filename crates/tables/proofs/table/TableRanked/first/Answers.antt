use Rattle.std.proofs.Common.{sym}
use Rattle.std.proofs.lemmas.List.{length-map}
use Rattle.tables.specs.Lists.{passed_lawful}
use Rattle.tables.proofs.TablesLemmas.{held, table_first}
use Rattle.tables.proofs.table.TableRanked.first.Goals as goal

pub least_from-least-requires : goal.least_from-least-requires
least_from-least-requires g c = passed_lawful g.L.Point.Kind.shape g.L.Point.Kind.meaning g.met.L.Point.Kind.own c.as_slice.result.now c.as_slice.ensures.kept

pub returns : goal.returns
returns g c =
    let sh = g.L.Point.Kind.shape in
    let m = g.L.Point.Kind.meaning in
    let ps = c.as_slice.result.now in
    let list = c.as_slice.ensures in
    let lawful = passed_lawful sh m g.met.L.Point.Kind.own ps list.kept in
    let q = c.in_ok-question.question in
    let same = c.in_ok-question.ensures in
    rw (held sh m ps (g.L.PointList.held c.args.self.now.list) list.list list.kept, ← same.1, ← same.2, c.unwrap_or.ensures, c.index_of.ensures.value)
    (table_first lawful (m q.target) q.gain q.asked (sym (length-map ps m)) c.least_from-least.ensures)

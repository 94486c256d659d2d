use Rattle.std.proofs.Common.{map, sym, ap, ◌∙◌, arith}
use Rattle.std.proofs.lemmas.List.{length-map}
use Rattle.alphabets.proofs.Asked.{told}
use Rattle.tables.specs.Lists.{passed_lawful}
use Rattle.tables.specs.Listed.{point_at, near_at, few_read}
use Rattle.tables.proofs.TablesLemmas.{held, table_past, table_next}
use Rattle.tables.proofs.table.TableRanked.next.Goals as goal

pub returns-then-index-points : goal.returns-then-index-points
returns-then-index-points g c =
    let list = c.as_slice-points in
    let q = c.in_ok-question.question in
    let same = c.in_ok-question.ensures in
    rw (← same.1, ← same.2)
    (table_past g.L.Point.Kind.shape g.L.Point.Kind.meaning list.result.now (g.L.PointList.held c.args.self.now.list) list.ensures.list list.ensures.kept (g.L.Point.Kind.meaning q.target) q.gain c.args.index q.asked c.if-index-points.true)

pub amount-requires : goal.amount-requires
amount-requires g c =
    let sh = g.L.Point.Kind.shape in
    let m = g.L.Point.Kind.meaning in
    let ps = c.as_slice-points.result.now in
    rw c.index-points-index.is (near_at m ps c.args.index c.index-points-index.result c.if-index-points.false sh (passed_lawful sh m g.met.L.Point.Kind.own ps c.as_slice-points.ensures.kept))

pub rank_key-floor-requires-clause-index : goal.rank_key-floor-requires-clause-index
rank_key-floor-requires-clause-index g c =
    let sh = g.L.Point.Kind.shape in
    let m = g.L.Point.Kind.meaning in
    let ps = c.as_slice-points.result.now in
    omega (arith, few_read m ps sh (passed_lawful sh m g.met.L.Point.Kind.own ps c.as_slice-points.ensures.kept), c.if-index-points.false)

pub overflow_add-floor : goal.overflow_add-floor
overflow_add-floor g c =
    let sh = g.L.Point.Kind.shape in
    let m = g.L.Point.Kind.meaning in
    let ps = c.as_slice-points.result.now in
    record { fits = omega (arith, few_read m ps sh (passed_lawful sh m g.met.L.Point.Kind.own ps c.as_slice-points.ensures.kept), c.if-index-points.false, c.rank_key-floor.ensures.value, c.amount.ensures.bound) }

pub least_from-requires : goal.least_from-requires
least_from-requires g c = passed_lawful g.L.Point.Kind.shape g.L.Point.Kind.meaning g.met.L.Point.Kind.own c.as_slice-points.result.now c.as_slice-points.ensures.kept

pub returns : goal.returns
returns g c =
    let sh = g.L.Point.Kind.shape in
    let m = g.L.Point.Kind.meaning in
    let ps = c.as_slice-points.result.now in
    let list = c.as_slice-points.ensures in
    let i = c.args.index in
    let p = c.index-points-index.result in
    let q = c.in_ok-question.question in
    let same = c.in_ok-question.ensures in
    let lawful = passed_lawful sh m g.met.L.Point.Kind.own ps list.kept in
    let point = ap m c.index-points-index.is ∙ sym (point_at m ps i p c.if-index-points.false) in
    rw (held sh m ps (g.L.PointList.held c.args.self.now.list) list.list list.kept, ← same.1, ← same.2, c.index_of.ensures.value)
    (table_next lawful (m q.target) q.gain q.asked (sym (length-map ps m)) i (m p) (told (map m ps) i (m p) (omega (arith, length-map ps m, c.if-index-points.false)) point) (rw (c.rank_key-floor.ensures.value, c.amount.ensures.value) at c.least_from.ensures))

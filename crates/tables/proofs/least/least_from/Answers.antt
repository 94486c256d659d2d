use Rattle.std.proofs.Common.{◌≡◌, map}
use Rattle.alphabets.specs.Questions.{amounts}
use Rattle.ranks.specs.Keys.{key_at}
use Rattle.ranks.proofs.Keys.{least_more}
use Rattle.tables.specs.Listed.{near_at, amount_at}
use Rattle.tables.proofs.least.least_from.Goals as goal

pub amount-requires : goal.amount-requires
amount-requires g c =
    rw c.index-points-index.is (near_at g.K.Kind.meaning c.args.points.now c.loop-index.index c.index-points-index.result c.loop-index-test.true g.K.Kind.shape c.requires)

pub loop-index-preserved : goal.loop-index-preserved
loop-index-preserved g c =
    let m = g.K.Kind.meaning in
    let q = c.args.question.now in
    let i = c.loop-index.index in
    let ws = amounts (map m c.args.points.now) (m q.target) q.gain in
    let here = amount_at m c.args.points.now i c.index-points-index.result c.loop-index-test.true (m q.target) q.gain in
    let is : c.rank_key.result ≡ key_at ws i = cc in
    rw c.lesser-least.ensures (least_more ws c.args.floor i c.loop-index.least c.rank_key.result is c.loop-index.invariant)

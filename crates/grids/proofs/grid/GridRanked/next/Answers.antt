use Rattle.std.proofs.Common.{◌≡◌, None, rules}
use Rattle.points.specs.Points.{gaussian, real}
use Rattle.alphabets.specs.Questions.{rank_fault, amounts}
use Rattle.grids.proofs.Weighing.{in_front, sides, next_answered}
use Rattle.grids.proofs.grid.GridRanked.next.Goals as goal

pub next_sum-requires-clause-sides : goal.next_sum-requires-clause-sides
next_sum-requires-clause-sides g c =
    let u = gaussian c.args.target.re c.args.target.im in
    let ps = g.P.Alphabet.points c.args.self.now.side in
    let left : rank_fault u c.args.gain ≡ None = search rules in
    let rows : c.weigh.new.rows ≡ amounts ps (real u.re) c.args.gain = search rules in
    let columns : c.weigh.new.columns ≡ amounts ps (real u.im) c.args.gain = search rules in
    let re = in_front ps u.re c.args.gain _ _ c.size-side.result rows c.size-side.ensures in
    let im = in_front ps u.im c.args.gain _ _ c.size-side.result columns c.size-side.ensures in
    sides u c.args.gain _ _ (g.met.P.Alphabet.lawful c.args.self.now.side) left re im

pub returns : goal.returns
returns g c =
    let u = gaussian c.args.target.re c.args.target.im in
    let ps = g.P.Alphabet.points c.args.self.now.side in
    let left : rank_fault u c.args.gain ≡ None = search rules in
    let rows : c.weigh.new.rows ≡ amounts ps (real u.re) c.args.gain = search rules in
    let columns : c.weigh.new.columns ≡ amounts ps (real u.im) c.args.gain = search rules in
    let re = in_front ps u.re c.args.gain _ _ c.size-side.result rows c.size-side.ensures in
    let im = in_front ps u.im c.args.gain _ _ c.size-side.result columns c.size-side.ensures in
    next_answered u c.args.gain _ _ (g.met.P.Alphabet.lawful c.args.self.now.side) left re im c.args.index c.size-side.ensures c.if-side-index.false c.next_sum.ensures

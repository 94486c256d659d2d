use Rattle.std.proofs.Common.{◌∙◌, ◌<◌, ◌≤◌, length, arith}
use Rattle.points.specs.Points.{real}
use Rattle.grids.proofs.Weighing.{one_weighed, all_weighed}
use Rattle.grids.proofs.weigh.weigh.Goals as goal

pub loop-index-init : goal.loop-index-init
loop-index-init g c = (λ k h. absurd (omega (arith, h)), λ k h. absurd (omega (arith, h)))

pub loop-index-preserved : goal.loop-index-preserved
loop-index-preserved g c =
    let ps = g.P.Alphabet.points c.args.side.now in
    let l = c.loop-index in
    let point = c.point_or_origin-point.ensures.value in
    let within : l.index < length ps = omega (arith, c.loop-index-test.true, c.requires.rows) in (
      one_weighed ps (real c.args.re.now.target.value) c.args.re.now.gain l.rows (l.auto.rows ∙ c.requires.rows) l.invariant.0 within point c.amount.ensures.value,
      one_weighed ps (real c.args.im.now.target.value) c.args.im.now.gain l.columns (l.auto.columns ∙ c.requires.columns) l.invariant.1 within point c.amount-in-loop-index.ensures.value,
    )

pub returns : goal.returns
returns g c =
    let ps = g.P.Alphabet.points c.args.side.now in
    let l = c.loop-index in
    let past : length ps ≤ l.index = omega (arith, c.loop-index-test.false, l.auto.rows, c.requires.rows) in
    record {
      rows = all_weighed ps (real c.args.re.now.target.value) c.args.re.now.gain l.rows (l.auto.rows ∙ c.requires.rows) l.invariant.0 past;
      columns = all_weighed ps (real c.args.im.now.target.value) c.args.im.now.gain l.columns (l.auto.columns ∙ c.requires.columns) l.invariant.1 past;
    }

use Rattle.std.proofs.Common.{◌+◌, ◌-◌, ◌<◌, ◌≤◌, length, drop, arith, length-drop}
use Rattle.std.proofs.lemmas.List.{take_all}
use Rattle.points.specs.Points.{levels}
use Rattle.blocks.specs.Systems.{values}
use Rattle.codewords.proofs.Targets.{length_values}
use Rattle.codewords.proofs.Bounds.{distance_small}
use Rattle.codewords.proofs.Sums.{one_level, no_level}
use Rattle.codewords.proofs.codebook.Codebook.word_distance.Goals as goal

pub loop-level-preserved : goal.loop-level-preserved
loop-level-preserved g c =
    let sh = g.B.Point.Kind.shape in
    let zs = c.self.inside.block.now.received in
    let w = c.args.word.now in
    let l = c.loop-level.level in
    let n = levels sh - 1 - l in
    let low : l < levels sh = omega (arith, c.requires, c.loop-level-test.true) in
    let there : l < length (values sh (levels sh) 0 zs) = omega (arith, low, length_values sh (levels sh) 0 zs) in
    let all : length (drop (l + 1) w) ≤ length w - (l + 1) = simp length-drop (omega arith) in
    let target = rw (← c.self.view_is, take_all) at c.target-u.ensures.value in
    one_level c.loop-level.invariant _ _ _ _ _ c.loop-level-test.true there
    (c.row.ensures sh low) (omega arith) (c.gain-gain.ensures.value sh n)
    target c.point_or_origin.ensures.value c.amount-sum.ensures.value c.amount-sum.ensures.bound

pub returns : goal.returns
returns g c =
    let value = no_level c.loop-level.invariant c.loop-level-test.false in
    let bound = distance_small g.B.Point.Kind.shape c.self.inside.block.now _ c.args.word.now (g.met.B.Alphabet.lawful c.self.inside.alphabet.now) in
    rw (← c.self.view_is) (record { value = value; bound = omega (arith, value, bound) })

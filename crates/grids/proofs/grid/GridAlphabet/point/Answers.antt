use Rattle.std.proofs.Common.{arith, w32, SFits, rules}
use Rattle.std.proofs.lemmas.Int.{to_z-of_z}
use Rattle.points.specs.Points.{gaussian}
use Rattle.grids.specs.Grids.{grid_points}
use Rattle.alphabets.proofs.Asked.{told}
use Rattle.grids.specs.GridsLemmas.{grid_size, grid_held}
use Rattle.grids.proofs.grid.GridAlphabet.point.Goals as goal

pub returns : goal.returns
returns g c =
    let ps = g.P.Alphabet.points c.args.self.now.side in
    let n = c.size-side.result in
    let k = c.args.index in
    let a = c.point_or_origin-re.result.value in
    let b = c.point_or_origin-im.result.value in
    let fa : SFits w32 a = search rules in
    let fb : SFits w32 b = search rules in
    let value = grid_held ps n k a b c.size-side.ensures c.if-index-side.false c.point_or_origin-re.ensures.value c.point_or_origin-im.ensures.value in
    simp to_z-of_z (told (grid_points ps) k (gaussian a b) (omega (arith, grid_size ps n c.size-side.ensures)) value)

use Rattle.std.proofs.Common.{◌≡◌, ◌+◌, ◌*◌, ◌<◌, Ok, arith, w32, SFits, rules}
use Rattle.std.proofs.lemmas.Int.{to_z-of_z}
use Rattle.points.specs.Points.{gaussian}
use Rattle.alphabets.specs.Questions.{first_answer}
use Rattle.grids.specs.Grids.{grid_points}
use Rattle.grids.proofs.Weighing.{grid_answered}
use Rattle.grids.proofs.grid.GridRanked.first.Given as given
use Rattle.grids.proofs.grid.GridRanked.first.Goals as goal

answered : (g : given.Over) (c : goal.After-size g) → (c.in_ok-re.re * c.size.result + c.in_ok-im.im < 256) × (Ok (c.in_ok-re.re * c.size.result + c.in_ok-im.im) ≡ first_answer (grid_points (g.P.Alphabet.points c.args.self.now.side)) (gaussian c.args.target.re c.args.target.im) c.args.gain)
answered g c =
    let fr : SFits w32 c.args.target.re = search rules in
    let fi : SFits w32 c.args.target.im = search rules in
    grid_answered (gaussian c.args.target.re c.args.target.im) c.args.gain (g.met.P.Alphabet.lawful c.args.self.now.side) c.size.ensures (simp to_z-of_z at c.in_ok-re.ensures) (simp to_z-of_z at c.in_ok-im.ensures)

pub overflow_mul-result : goal.overflow_mul-result
overflow_mul-result g c = record { fits = omega (arith, (answered g c).0) }

pub overflow_add-result : goal.overflow_add-result
overflow_add-result g c = record { fits = omega (arith, (answered g c).0) }

pub returns : goal.returns
returns g c = (answered g c).1

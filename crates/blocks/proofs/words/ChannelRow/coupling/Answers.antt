use Rattle.std.proofs.Common.{◌≡◌, ◌+◌, ◌*◌, sym, arith, add-one}
use Rattle.points.specs.Points.{parts}
use Rattle.blocks.proofs.Rows.{value_of_many, value_near}
use Rattle.blocks.proofs.words.ChannelRow.coupling.Goals as goal

pub returns-clause-value : goal.returns-clause-value
returns-clause-value g c = λ n h.
    let sh = g.K.Kind.shape in
    let start : 0 + parts sh * c.args.k ≡ parts sh * c.args.k = omega arith in
    rw (add-one, c.read.ensures) (sym (rw start at (value_of_many sh n 0 c.args.k c.args.self.now.words h)))

pub returns-clause-near : goal.returns-clause-near
returns-clause-near g c = rw c.read.ensures (value_near g.K.Kind.shape 2048 c.args.self.now.words _ c.args.self.now.near)

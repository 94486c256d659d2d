use Rattle.blocks.proofs.Rows.{value_near}
use Rattle.blocks.proofs.words.BlockWords.received.Goals as goal

pub returns-clause-near : goal.returns-clause-near
returns-clause-near g c = rw c.read.ensures (value_near g.K.Kind.shape 32768 c.args.self.now.received _ c.args.self.now.near)

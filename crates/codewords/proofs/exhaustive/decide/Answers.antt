use Rattle.codewords.proofs.Deciding.{decided_ok, decided_err}
use Rattle.codewords.proofs.exhaustive.decide.Goals as goal

pub returns : goal.returns
returns g c = decided_ok g.B.Point.Kind.shape c.args.extra_bits c.args.channel.now c.args.received.now _ _ c.nearest.result c.in_ok-block.ensures.answer (rw c.new.ensures at c.nearest.ensures.nearest)

pub returns-in_err-block : goal.returns-in_err-block
returns-in_err-block g c = decided_err g.B.Point.Kind.shape c.args.extra_bits c.args.channel.now c.args.received.now _ _ _ c.in_err-block.ensures.answer c.from_residual.ensures.1

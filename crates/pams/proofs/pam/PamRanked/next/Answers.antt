use Rattle.std.proofs.Common.{arith, rules}
use Rattle.pams.proofs.Stepping.{next_answered}
use Rattle.pams.proofs.pam.PamRanked.next.Goals as goal

pub returns : goal.returns
returns c = next_answered c.args.target.value c.args.gain c.half_steps.result c.from-size.ensures (search rules) (search rules) c.args.index c.next_step.result (omega arith) c.next_step.ensures

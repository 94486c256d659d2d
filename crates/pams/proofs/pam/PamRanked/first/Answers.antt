use Rattle.std.proofs.Common.{rules}
use Rattle.pams.proofs.Stepping.{first_answered}
use Rattle.pams.proofs.pam.PamRanked.first.Goals as goal

pub returns : goal.returns
returns c = first_answered c.args.target.value c.args.gain c.half_steps.result c.from-size.ensures (search rules) (search rules) c.first_step.result c.first_step.ensures

use Rattle.pams.proofs.Stepping.{step_first}
use Rattle.pams.proofs.steps.first_step.Goals as goal

pub returns : goal.returns
returns c ws e h = step_first ws c.args.steps h c.args.size c.min.result e c.requires c.min.ensures

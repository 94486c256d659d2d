use Rattle.std.proofs.Common.{◌-◌, refl, arith}
use Rattle.pams.proofs.Stepping.{step_over, step_away, step_back, step_up, step_top}
use Rattle.pams.proofs.steps.next_step.Goals as goal

pub returns-then-across-size : goal.returns-then-across-size
returns-then-across-size c ws e h = step_over ws c.args.steps h c.args.index (omega arith) (c.args.steps - c.args.index) c.if-index-steps.true refl (omega arith)

pub returns-then-index-steps : goal.returns-then-index-steps
returns-then-index-steps c ws e h = step_away ws c.args.steps h c.args.index (omega arith) c.checked_sub.result c.if-index-steps.true (omega arith) c.checked_sub.ensures

pub returns-then-index-steps-2 : goal.returns-then-index-steps-2
returns-then-index-steps-2 c ws e h = step_back ws c.args.steps h c.args.index (omega arith) (c.args.steps - c.args.index - 1) c.if-index-steps.false c.if-index-steps-2.true refl

pub returns-then-above-size : goal.returns-then-above-size
returns-then-above-size c ws e h = step_up ws c.args.steps h c.args.index (omega arith) c.if-index-steps.false c.if-index-steps-2.false (omega arith)

pub returns-else-above-size : goal.returns-else-above-size
returns-else-above-size c ws e h = step_top ws c.args.steps h c.args.index (omega arith) c.if-index-steps.false c.if-index-steps-2.false (omega arith)

use Rattle.std.proofs.Common.{arith, rules}
use Rattle.pams.proofs.Stepping.{stand_word, no_gain, at_first, above_first}
use Rattle.pams.proofs.steps.half_steps.Goals as goal
use Rattle.pams.proofs.steps.half_steps.Goals.{then-gain-eq0-via-then-gain-eq0, then-gain-eq0-via-else-gain-eq0+then-above_first-le0}

pub returns-then-gain-eq0-clause-value : goal.returns-then-gain-eq0-clause-value
returns-then-gain-eq0-clause-value c =
    let n = c.args.size in
    let u = c.args.question.now.target.value in
    let r = c.args.question.now.gain in
    let word = stand_word n u r c.requires.few c.args.question.now.asked (search rules) in
    elim c.then-gain-eq0.branch [ then-gain-eq0-via-then-gain-eq0 w ↦ no_gain n u r w.if-gain-eq0.true | then-gain-eq0-via-else-gain-eq0+then-above_first-le0 w ↦ at_first n u r (omega (arith, w.if-gain-eq0.false)) (rw word at w.if-above_first-le0.true) ]

pub returns-clause-value : goal.returns-clause-value
returns-clause-value c =
    let n = c.args.size in
    let u = c.args.question.now.target.value in
    let r = c.args.question.now.gain in
    let word = stand_word n u r c.requires.few c.args.question.now.asked (search rules) in
    above_first n u r c.div_ceil.result (omega (arith, c.if-gain-eq0.false)) (rw word at c.if-above_first-le0.false) (rw (c.unsigned_abs.ensures.value, word) at c.div_ceil.ensures)

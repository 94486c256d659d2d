use Rattle.std.proofs.Common.{map}
use Rattle.alphabets.specs.Questions.{amounts}
use Rattle.ranks.specs.Keys.{Least}
use Rattle.tables.proofs.least.least_from.Given as goal

abbrev pub invariant-loop-index : goal.invariant-loop-index
invariant-loop-index g l =
    let m = g.K.Kind.meaning in
    Least (amounts (map m l.points) (m l.question.target) l.question.gain) l.floor l.index l.least

use Rattle.std.proofs.Common.{◌-◌, length}
use Rattle.alphabets.specs.Lists.{list_of}
use Rattle.rankings.proofs.Walking.{Front}
use Rattle.rankings.proofs.ranking.whole_ranking.Given as goal

abbrev pub invariant-loop-next : goal.invariant-loop-next
invariant-loop-next g l = Front (g.B.Alphabet.points l.alphabet) (g.B.Point.Kind.meaning l.target) l.gain (list_of l.ranking) l.next

abbrev pub decreases-loop-next : goal.decreases-loop-next
decreases-loop-next g l = length (g.B.Alphabet.points l.alphabet) - length (list_of l.ranking)

use Rattle.points.specs.Points.{levels}
use Rattle.alphabets.specs.Lists.{list_of}
use Rattle.codewords.proofs.Best.{Best}
use Rattle.codewords.proofs.codebook.Codebook.nearest.Given as goal

abbrev pub invariant-loop-number : goal.invariant-loop-number
invariant-loop-number g l = Best l.self.system l.self.points (levels g.B.Point.Kind.shape) l.number (list_of l.best.codeword) l.best.distance

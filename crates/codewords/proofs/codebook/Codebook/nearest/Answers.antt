use Rattle.std.proofs.Common.{arith}
use Rattle.codewords.proofs.Best.{best_stays, best_moves, best_nearest}
use Rattle.codewords.proofs.Order.{settled}
use Rattle.codewords.proofs.codebook.Codebook.nearest.Goals as goal
use Rattle.codewords.proofs.codebook.Codebook.nearest.Goals.{then-decision-best, else-decision-best}

pub loop-number-preserved : goal.loop-number-preserved
loop-number-preserved g c =
    let d = c.decision-decision.ensures in
    elim c.if-decision-best.branch [
      | then-decision-best w ↦ rw w.best-is (best_moves c.loop-number.invariant d.codeword d.distance d.bound w.if-decision-best.true)
      | else-decision-best w ↦ rw w.best-is (best_stays c.loop-number.invariant d.codeword d.distance w.if-decision-best.false)
    ]

pub returns-clause-nearest : goal.returns-clause-nearest
returns-clause-nearest g c =
    let lawful = g.met.B.Alphabet.lawful c.self.inside.alphabet.now in
    rw (← c.self.view_is) (best_nearest (rw (← c.self.view_is) at c.loop-number.invariant) lawful.some (omega arith))

pub returns-clause-settled : goal.returns-clause-settled
returns-clause-settled g c = settled

use Rattle.std.proofs.Common.{arith}
use Rattle.std.proofs.lemmas.Grind.{common_steps}
use Rattle.codewords.proofs.Numbering.{written}
use Rattle.codewords.proofs.codeword.codeword_numbered.Goals as goal

pub loop-preserved : goal.loop-preserved
loop-preserved c = grind (arith, common_steps, written)

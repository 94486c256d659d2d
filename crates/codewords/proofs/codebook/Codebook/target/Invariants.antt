use Rattle.blocks.specs.Blocks.{block_of}
use Rattle.codewords.proofs.Targets.{Left}
use Rattle.codewords.proofs.codebook.Codebook.target.Given as goal

abbrev pub invariant-loop-k : goal.invariant-loop-k
invariant-loop-k g l = Left (block_of g.B.Point.Kind.shape l.self-inside.block.now) (g.B.Alphabet.points l.self-inside.alphabet.now) l.level l.above l.k (g.B.Point.Kind.meaning l.u)

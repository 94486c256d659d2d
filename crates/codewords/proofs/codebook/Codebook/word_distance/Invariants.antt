use Rattle.blocks.specs.Blocks.{block_of}
use Rattle.codewords.proofs.Sums.{Summed}
use Rattle.codewords.proofs.codebook.Codebook.word_distance.Given as goal

abbrev pub invariant-loop-level : goal.invariant-loop-level
invariant-loop-level g l = Summed (block_of g.B.Point.Kind.shape l.self-inside.block.now) (g.B.Alphabet.points l.self-inside.alphabet.now) l.word l.level l.sum

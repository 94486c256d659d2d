use Rattle.std.proofs.Common.{arith}
use Rattle.codewords.proofs.Numbering.{count_small}
use Rattle.codewords.proofs.exhaustive.codeword_count.Goals as goal

pub pow-requires : goal.pow-requires
pow-requires g c = rw (c.size.ensures, c.LEVELS.ensures, g.met.B.Point.Kind.level_count) (omega (arith, count_small _ _ (g.met.B.Alphabet.lawful c.args.alphabet.now)))

pub returns-clause-bound : goal.returns-clause-bound
returns-clause-bound g c = rw (c.pow.ensures, c.size.ensures, c.LEVELS.ensures, g.met.B.Point.Kind.level_count) (count_small _ _ (g.met.B.Alphabet.lawful c.args.alphabet.now))

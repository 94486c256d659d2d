use Rattle.std.proofs.Common.{arith}
use Rattle.alphabets.specs.Lists.{list_of}
use Rattle.rankings.proofs.Walking.{begins, room, never, shorter, one_more, at_end}
use Rattle.rankings.proofs.ranking.whole_ranking.Goals as goal

pub loop-next-init : goal.loop-next-init
loop-next-init g c = rw c.new-ranking.ensures (begins (g.met.B.Alphabet.lawful c.args.alphabet.now) c.in_ok-first.ensures)

pub push-requires : goal.push-requires
push-requires g c = (omega arith, room (g.met.B.Alphabet.lawful c.args.alphabet.now) c.loop-next.invariant c.in-Some.is)

pub returns-in_err-next : goal.returns-in_err-next
returns-in_err-next g c = absurd (never (g.met.B.Alphabet.lawful c.args.alphabet.now) c.loop-next.invariant c.in-Some.is c.in_err-next.field-0.0 c.in_err-next.ensures)

pub loop-next-smaller : goal.loop-next-smaller
loop-next-smaller g c = shorter (g.met.B.Alphabet.lawful c.args.alphabet.now) c.loop-next.invariant c.in-Some.is (list_of c.push.new.self) c.push.ensures

pub loop-next-preserved : goal.loop-next-preserved
loop-next-preserved g c = one_more (g.met.B.Alphabet.lawful c.args.alphabet.now) c.loop-next.invariant c.in-Some.is (list_of c.push.new.self) c.in_ok-next.next c.push.ensures c.in_ok-next.ensures

pub returns-clause-answer : goal.returns-clause-answer
returns-clause-answer g c = at_end c.loop-next.invariant c.in_default.is

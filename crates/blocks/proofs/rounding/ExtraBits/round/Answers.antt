use Rattle.std.proofs.Common.{◌≡◌, arith, w32, w64, SFits, rules}
use Rattle.std.proofs.lemmas.Int.{to_z-of_z}
use Rattle.blocks.specs.Rounding.{rounded}
use Rattle.blocks.proofs.Rounds.{rounds_down, rounds}
use Rattle.blocks.proofs.rounding.ExtraBits.round.Goals as goal

quotient_is : (c : goal.After-quotient) → (c.quotient.result ≡ rounded c.args.self.count c.args.word) × SFits w32 c.quotient.result
quotient_is c = rounds c.args.self.count c.args.word c.from.result c.half.result c.quotient.result (omega (arith, c.if-self-eq0.false)) c.args.self.few c.ranges.word c.from.ensures c.half.ensures c.quotient.ensures

pub returns-then-self-eq0-clause-down : goal.returns-then-self-eq0-clause-down
returns-then-self-eq0-clause-down c = rounds_down

pub returns-clause-down : goal.returns-clause-down
returns-clause-down c = rounds_down

pub overflow_cast-result : goal.overflow_cast-result
overflow_cast-result c = let wide : SFits w64 c.quotient.result = search rules in simp to_z-of_z (quotient_is c).1

pub returns-clause-value : goal.returns-clause-value
returns-clause-value c =
    let wide : SFits w64 c.quotient.result = search rules in
    let narrow = (quotient_is c).1 in
    simp to_z-of_z (quotient_is c).0

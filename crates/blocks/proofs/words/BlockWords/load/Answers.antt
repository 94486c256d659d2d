use Rattle.std.proofs.Common.{◌≡◌, ℕ, Ok, ap, ◌∙◌, arith}
use Rattle.points.specs.Points.{levels}
use Rattle.blocks.specs.Refusals.{load_answer}
use Rattle.blocks.specs.Blocks.{matrix_of}
use Rattle.blocks.proofs.Loads.{loaded, bits_are}
use Rattle.blocks.proofs.words.BlockWords.load.Goals as goal

pub returns-clause-answer : goal.returns-clause-answer
returns-clause-answer g c =
    let sh = g.K.Kind.shape in
    let bits = c.in_ok-bits.bits in
    let cs = c.args.channel.now in
    let zs = c.args.received.now in
    let m = matrix_of sh (levels sh) c.in_ok-rows.rows in
    let read : c.read.result ≡ Ok c.in_ok-received.received = grind (arith, c.in_ok-received.ensures.cases, c.in_ok-received.ensures.variant) in
    loaded sh bits.count cs zs m c.in_ok-received.received bits.few
    (c.if-channel-channel_count.false ∙ c.channel_count.ensures)
    c.if-received-ne-RECEIVED_COUNT.false
    c.in_ok-rows.ensures
    (rw read at c.read.ensures.read)
    ∙ ap (λ (e : ℕ). load_answer sh e cs zs) (bits_are c.args.extra_bits bits.count c.in_ok-bits.ensures)

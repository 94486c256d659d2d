use Rattle.std.proofs.Common.{◌≡◌, ◌+◌, ◌<◌, true, false, get_or, pos, refl, ◌∙◌, arith, length-set, w32, SFits, rules}
use Rattle.std.proofs.lemmas.List.{length-take}
use Rattle.std.proofs.lemmas.Int.{to_z-of_z}
use Rattle.blocks.specs.Words.{outside}
use Rattle.blocks.proofs.Rounds.{part_word_is}
use Rattle.blocks.proofs.Limits.{inside_near, within_set, turn_refuses, turn_goes_on, turn_keeps}
use Rattle.blocks.proofs.words.load.RawWords.read.Goals as goal
use Rattle.blocks.proofs.words.load.RawWords.read.Goals.{After-is_outside}

more : (c : After-is_outside) → c.loop-k.k < c.args.count
more c = omega (arith, simp length-take at c.loop-k-test.true)

-- the word of this turn
fresh : (c : After-is_outside) → c.round-word.result ≡ get_or c.args.self.now (c.args.place + c.loop-k.k) (pos 0)
fresh c = c.round-word.ensures.value ∙ part_word_is c.self.inside.bits.count c.self.inside.words.now c.args.self.now c.self.view_is c.args.place (c.args.place + c.args.count) c.loop-k.k c.loop-k-test.true (search rules)

pub returns-then-is_outside-clause-read : goal.returns-then-is_outside-clause-read
returns-then-is_outside-clause-read c =
    let a = (goal.at.returns-then-is_outside-clause-read c).After-is_outside in
    let w = c.round-word.result in
    let fits : SFits w32 w = search rules in
    let beyond : outside c.args.limit w ≡ true = search rules in
    rw (turn_refuses c.args.limit c.args.count c.args.place c.loop-k.k c.args.self.now w (more a) (fresh a) beyond c.loop-k.invariant.left) refl

pub loop-k-preserved : goal.loop-k-preserved
loop-k-preserved c =
    let a = (goal.at.loop-k-preserved c).After-is_outside in
    let b = c.args.limit in
    let n = c.args.count in
    let i = c.args.place in
    let k = c.loop-k.k in
    let ws = c.args.self.now in
    let read = c.loop-k.read in
    let w = c.round-word.result in
    let inv = c.loop-k.invariant in
    let fits : SFits w32 w = search rules in
    let inside : outside b w ≡ false = search rules in
    simp to_z-of_z record {
      left = turn_goes_on b n i k ws w (more a) (fresh a) inside inv.left;
      same = turn_keeps b n i k ws w (more a) (fresh a) read (omega (arith, more a)) (omega (arith, more a)) inv.same;
      near = within_set b read k w (inside_near b w inside) inv.near;
      eight = length-set read k w ∙ inv.eight;
    }

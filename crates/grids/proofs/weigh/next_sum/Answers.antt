use Rattle.std.proofs.Common.{ℕ, ◌+◌, ap, ◌∙◌}
use Rattle.grids.proofs.Weighing.{next_among}
use Rattle.grids.proofs.weigh.next_sum.Goals as goal

pub returns : goal.returns
returns c =
    c.index_of.ensures.value
    ∙ next_among c.args.re.now c.args.im.now c.requires.sides c.args.index c.requires.index (c.rank_key.result + 1) c.least_key.result (ap (λ (k : ℕ). k + 1) c.rank_key.ensures.value) c.least_key.ensures

use Rattle.std.proofs.Common.{List, map, sym, ap, ◌∙◌, arith}
use Rattle.std.proofs.lemmas.List.{drop_all}
use Rattle.tables.specs.Tables.{among}
use Rattle.tables.specs.Same.{among_turn}
use Rattle.tables.proofs.check.holds.Goals as goal

pub returns-then-is_same : goal.returns-then-is_same
returns-then-is_same g c =
    let turn = among_turn g.K.Kind.meaning g.met.K.Kind.faithful c.args.points.now c.loop-other.other-index c.other-item.result c.args.point _ (omega arith) c.other-item.is c.if-is_same.ensures in
    sym (c.loop-other.invariant ∙ turn)

pub loop-other-preserved : goal.loop-other-preserved
loop-other-preserved g c =
    let turn = among_turn g.K.Kind.meaning g.met.K.Kind.faithful c.args.points.now c.loop-other.other-index c.other-item.result c.args.point _ (omega arith) c.other-item.is c.if-is_same.ensures in
    c.loop-other.invariant ∙ turn

pub returns : goal.returns
returns g c =
    let m = g.K.Kind.meaning in
    sym (c.loop-other.invariant ∙ ap (λ (ys : List g.row.K.Denot). among (m c.args.point) (map m ys)) (drop_all c.loop-other.other-index c.args.points.now (omega arith)))

use Rattle.std.proofs.Common.{sym, ◌∙◌, refl, map, length, arith}
use Rattle.tables.specs.Checks.{listed_empty, listed_many, listed_some, none_left, part_refused, repeated_refused, point_passed}
use Rattle.tables.proofs.check.check.Goals as goal
use Rattle.tables.proofs.check.check.Goals.{then-is_empty-via-then-is_empty, then-is_empty-via-else-is_empty+then-points-most_points}

pub returns-then-is_empty-clause-answer : goal.returns-then-is_empty-clause-answer
returns-then-is_empty-clause-answer g c =
    let sh = g.K.Kind.shape in
    let m = g.K.Kind.meaning in
    let xs = c.args.points.now in
    elim c.then-is_empty.branch [
      | then-is_empty-via-then-is_empty w ↦ rw (listed_empty sh m xs w.if-is_empty.ensures) refl
      | then-is_empty-via-else-is_empty+then-points-most_points w ↦ rw (listed_many sh m xs (omega (arith, w.most_points.ensures))) refl
    ]

pub loop-index-init : goal.loop-index-init
loop-index-init g c = listed_some g.K.Kind.shape g.K.Kind.meaning c.args.points.now c.if-is_empty.ensures (omega (arith, c.most_points.ensures))

pub returns-then-not-is_within-clause-answer : goal.returns-then-not-is_within-clause-answer
returns-then-not-is_within-clause-answer g c = rw (part_refused g.K.Kind.meaning c.args.points.now c.loop-index.index c.loop-index-test.true c.index-points-index.is c.loop-index.invariant c.if-not-is_within.ensures) refl

pub returns-then-holds-clause-answer : goal.returns-then-holds-clause-answer
returns-then-holds-clause-answer g c =
    let m = g.K.Kind.meaning in
    let xs = c.args.points.now in
    let i = c.loop-index.index in
    let old = sym c.if-holds.true ∙ c.holds.ensures in
    rw (repeated_refused m xs i c.loop-index-test.true c.index-points-index.is c.loop-index.invariant c.if-not-is_within.ensures old) refl

pub loop-index-preserved : goal.loop-index-preserved
loop-index-preserved g c =
    let m = g.K.Kind.meaning in
    let xs = c.args.points.now in
    let i = c.loop-index.index in
    let new = sym c.if-holds.false ∙ c.holds.ensures in
    point_passed m xs i c.loop-index-test.true c.index-points-index.is c.loop-index.invariant c.if-not-is_within.ensures new

pub returns-clause-answer : goal.returns-clause-answer
returns-clause-answer g c = rw (c.loop-index.invariant ∙ none_left (map g.K.Kind.meaning c.args.points.now) (length c.args.points.now) c.loop-index.index c.loop-index-test.false) refl

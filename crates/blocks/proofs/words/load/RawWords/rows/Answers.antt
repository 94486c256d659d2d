use Rattle.std.proofs.Common.{◌≡◌, suc, ◌+◌, ◌-◌, ◌*◌, ◌<◌, ◌≤◌, ◌∷◌, ◌++◌, length, get_or, take, slice_range, pos, Ok, Some, refl, sym, ap, ◌∙◌, ap₂, arith}
use Rattle.std.proofs.lemmas.List.{length-take, length-take-le, take_all, take_more_set}
use Rattle.std.proofs.lemmas.Result.{err_from_is_err_and}
use Rattle.points.specs.Points.{levels, parts}
use Rattle.blocks.specs.Systems.{rows}
use Rattle.blocks.specs.Refusals.{row_fault, channel_fault}
use Rattle.blocks.specs.Blocks.{matrix_of}
use Rattle.blocks.proofs.Rows.{row_words, levels_few, fault_later, row_is, matrix_more, matrix_all}
use Rattle.blocks.proofs.Loads.{answered, refused}
use Rattle.blocks.proofs.words.load.RawWords.rows.Goals as goal
use Rattle.blocks.proofs.words.load.RawWords.rows.Goals.{After-LEVELS-in-loop-level}

-- the rows that are left: this one, and those after it
left : (g : _) (c : After-LEVELS-in-loop-level g) → levels g.K.Kind.shape - c.loop-level.level ≡ suc (levels g.K.Kind.shape - (c.loop-level.level + 1))
left g c = omega (arith, simp length-take at c.loop-level-test.true, c.LEVELS.ensures, g.met.K.Kind.level_count)

width : (g : _) (c : After-LEVELS-in-loop-level g) → c.PARTS.result * (c.LEVELS-in-loop-level.result - 1 - c.loop-level.level) ≡ parts g.K.Kind.shape * (levels g.K.Kind.shape - (c.loop-level.level + 1))
width g c =
    let after : c.LEVELS-in-loop-level.result - 1 - c.loop-level.level ≡ levels g.K.Kind.shape - (c.loop-level.level + 1) = omega (arith, c.LEVELS-in-loop-level.ensures, g.met.K.Kind.level_count) in
    ap₂ ◌*◌ (c.PARTS.ensures ∙ g.met.K.Kind.part_count) after

pub row-requires-clause-there : goal.row-requires-clause-there
row-requires-clause-there g c = rw (width g c) (omega (arith, c.loop-level.invariant.words, ap (row_words g.K.Kind.shape) (left g c)))

pub returns-in_err-row : goal.returns-in_err-row
returns-in_err-row g c =
    let sh = g.K.Kind.shape in
    let a = (goal.at.returns-in_err-row g c).After-LEVELS-in-loop-level in
    let i = c.loop-level.place in
    let ws = c.args.self.now in
    let m = levels sh - (c.loop-level.level + 1) in
    let here = refused (row_fault (parts sh * m) i ws) (get_or ws i (pos 0) ∷ slice_range ws (i + 1) (i + 1 + parts sh * m)) c.in_err-row.field-0.0 (rw (width g a) at c.in_err-row.ensures) in
    let fault : channel_fault sh (levels sh) 0 ws ≡ Some c.in_err-row.field-0.0 = c.loop-level.invariant.fault ∙ rw (left g a, here) refl in
    let p = err_from_is_err_and c.from_residual.result c.from_residual.ensures.1 in
    rw (p.1, p.2, fault) refl

pub loop-level-preserved : goal.loop-level-preserved
loop-level-preserved g c =
    let sh = g.K.Kind.shape in
    let a = (goal.at.loop-level-preserved g c).After-LEVELS-in-loop-level in
    let n = levels sh in
    let k = c.loop-level.level in
    let i = c.loop-level.place in
    let ws = c.args.self.now in
    let rs = c.loop-level.row-items in
    let r = c.in_ok-row.field-0 in
    let inv = c.loop-level.invariant in
    let m = n - (k + 1) in
    let room : k < length rs = omega (arith, c.loop-level-test.true, c.loop-level.auto.row-items) in
    let got = answered (row_fault (parts sh * m) i ws) (get_or ws i (pos 0) ∷ slice_range ws (i + 1) (i + 1 + parts sh * m)) (pos r.gain ∷ take (parts sh * m) r.words) (rw (width g a) at c.in_ok-row.ensures) in
    let front : length (take k rs) + suc m ≡ n = omega (arith, length-take-le k rs, left g a) in
    rw (width g a) record {
      fault = inv.fault ∙ ap (λ j. channel_fault sh j i ws) (left g a) ∙ fault_later sh m i ws got.0;
      all =
          rw take_more_set (matrix_more sh n m (take k rs) r (rows sh m (i + (1 + parts sh * m)) ws) front
          ∙ ap (λ row. matrix_of sh n (take k rs) ++ row ∷ rows sh m (i + (1 + parts sh * m)) ws) (row_is sh m i ws r got.1)
          ∙ rw (left g a) at inv.all);
      words = omega (arith, inv.words, ap (row_words sh) (left g a));
    }

pub returns : goal.returns
returns g c =
    let sh = g.K.Kind.shape in
    let n = levels sh in
    let rs = c.loop-level.row-items in
    let inv = c.loop-level.invariant in
    let size : length rs ≡ n = omega (arith, simp length-take at c.loop-level.auto.row-items, c.LEVELS.ensures, g.met.K.Kind.level_count, levels_few sh) in
    let whole : length rs ≤ c.loop-level.level = omega (arith, c.loop-level-test.false, c.loop-level.auto.row-items) in
    let none : n - c.loop-level.level ≡ 0 = omega arith in
    let all = rw (take_all c.loop-level.level rs whole, none) at inv.all in
    rw (inv.fault, none) (ap Ok (sym (matrix_all sh n rs _ size) ∙ all))

use Rattle.std.proofs.Common.{◌≡◌, ◌+◌, ◌-◌, ◌++◌, length, take}
use Rattle.points.specs.Points.{levels}
use Rattle.blocks.specs.Systems.{rows}
use Rattle.blocks.specs.Refusals.{channel_fault}
use Rattle.blocks.specs.Blocks.{matrix_of}
use Rattle.blocks.proofs.Rows.{row_words}
use Rattle.blocks.proofs.words.load.RawWords.rows.Given as goal

-- the rows that were read and those that are left are all of them, and the latter decide
abbrev pub invariant-loop-level : goal.invariant-loop-level
invariant-loop-level g l =
    let sh = g.K.Kind.shape in
    let n = levels sh in record {
      fault : channel_fault sh n 0 l.self ≡ channel_fault sh (n - l.level) l.place l.self;
      all : matrix_of sh n (take l.level l.row-items) ++ rows sh (n - l.level) l.place l.self ≡ rows sh n 0 l.self;
      words : l.place + row_words sh (n - l.level) ≡ length l.self;
    }

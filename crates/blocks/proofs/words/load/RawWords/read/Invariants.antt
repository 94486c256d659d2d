use Rattle.std.proofs.Common.{◌≡◌, ◌+◌, ◌-◌, true, length, take, drop}
use Rattle.blocks.specs.Words.{first_outside, all_within}
use Rattle.blocks.proofs.words.load.RawWords.read.Given as goal

-- the places that are left decide, and those that were read are kept
abbrev pub invariant-loop-k : goal.invariant-loop-k
invariant-loop-k l = record {
  left : first_outside l.limit l.count l.place l.fn.self ≡ first_outside l.limit (l.count - l.k) (l.place + l.k) l.fn.self;
  same : take l.k l.read ≡ take l.k (drop l.place l.fn.self);
  near : all_within l.limit l.read ≡ true;
  eight : length l.read ≡ 8;
}

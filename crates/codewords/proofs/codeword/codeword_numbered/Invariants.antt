use Rattle.std.proofs.Common.{◌≡◌, ◌-◌, ◌++◌, length}
use Rattle.alphabets.specs.Lists.{list_of}
use Rattle.codewords.specs.Numbers.{numbered}
use Rattle.codewords.proofs.codeword.codeword_numbered.Given as goal

-- the indices so far, and those that the rest of the number stands for
abbrev pub invariant-loop : goal.invariant-loop
invariant-loop l = (length (list_of l.word) ≡ l.counter) × (list_of l.word ++ numbered l.size (l.levels - l.counter) l.rest ≡ numbered l.size l.levels l.number)

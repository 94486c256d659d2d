use Rattle.std.proofs.Common.{◌≡◌, ℕ, ◌+◌, ◌<◌, List, length, get_or}
use Rattle.ranks.specs.Keys.{Least}
use Rattle.grids.proofs.weigh.least_in_row.Given as goal

abbrev pub invariant-loop-column : goal.invariant-loop-column
invariant-loop-column l = (ws : List ℕ) → ((j : ℕ) → j < length l.im → get_or ws (l.start + j) 0 ≡ l.row + get_or l.im j 0) → Least ws l.floor l.start l.initial.least → Least ws l.floor (l.start + l.column) l.least

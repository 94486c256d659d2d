-- Rank: the indices of a list of amounts, the nearest first.
--
--   before ws i j   i comes before j in rank: its amount is smaller, or the amounts are equal and its index is smaller
--   ranking ws      every index of ws, sorted so
--   first_in ws     the index first in rank
--   next_in ws i    the index that follows i in rank, and none after the last
--
-- What makes that list the ranking, whatever the way of sorting:
--
--   EachOnce        it holds every index of ws exactly once, and no other number
--   Ascends         what stands at an earlier place comes before what stands at a later one
--   Walked          the first stands at its place 0, and what follows an index stands at the next place
use Rattle.std.specs.Prelude.{◌≡◌, ℕ, zero, suc, ◌+◌, ◌<◌, Bool, true, ◌&&◌, ◌||◌, List, [], ◌∷◌, length, Some, None, Option, if◌then◌else◌, ◌==◌, nat_lt, slice_index}
use Rattle.std.specs.List.{range_with_len}

abbrev pub before : List ℕ → ℕ → ℕ → Bool
before ws i j = nat_lt (slice_index ws i) (slice_index ws j) || (slice_index ws i == slice_index ws j && nat_lt i j)

-- k, put in front of the first that it comes before
abbrev pub inserted : (ℕ → ℕ → Bool) → ℕ → List ℕ → List ℕ
inserted lt k [] = k ∷ []
inserted lt k (j ∷ js) = if lt k j then k ∷ j ∷ js else j ∷ inserted lt k js

abbrev pub sorted : (ℕ → ℕ → Bool) → List ℕ → List ℕ
sorted lt [] = []
sorted lt (k ∷ ks) = inserted lt k (sorted lt ks)

unfoldable pub ranking : List ℕ → List ℕ
ranking ws = sorted (before ws) (range_with_len 0 (length ws))

-- what stands at a place of a list, and behind an element of it
abbrev pub place : List ℕ → ℕ → Option ℕ
place [] k = None
place (x ∷ xs) zero = Some x
place (x ∷ xs) (suc k) = place xs k

abbrev pub behind : ℕ → List ℕ → Option ℕ
behind i [] = None
behind i (x ∷ xs) = if x == i then place xs 0 else behind i xs

abbrev pub first_in : List ℕ → Option ℕ
first_in ws = place (ranking ws) 0

abbrev pub next_in : List ℕ → ℕ → Option ℕ
next_in ws i = behind i (ranking ws)

abbrev pub occurrences : ℕ → List ℕ → ℕ
occurrences i [] = 0
occurrences i (x ∷ xs) = (if x == i then 1 else 0) + occurrences i xs

abbrev pub EachOnce : Type 0
EachOnce = (ws : List ℕ) (i : ℕ) → occurrences i (ranking ws) ≡ (if nat_lt i (length ws) then 1 else 0)

abbrev pub Ascends : Type 0
Ascends = (ws : List ℕ) (a b i j : ℕ) → a < b → place (ranking ws) a ≡ Some i → place (ranking ws) b ≡ Some j → before ws i j ≡ true

abbrev pub Walked : Type 0
Walked = (ws : List ℕ) → (first_in ws ≡ place (ranking ws) 0) × ((k i : ℕ) → place (ranking ws) k ≡ Some i → next_in ws i ≡ place (ranking ws) (k + 1))

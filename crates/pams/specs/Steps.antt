-- How a PAM ranks its points without weighing them.
--
--   HalfSteps ws q    the target stands q half steps, rounded up, above the first of the equally spaced points with the amounts ws:
--                      points i and j are equally far from the target where it stands i + j half steps above the first,
--                      so of two points the lower is at least as near exactly where q is not above the sum of their indices
use Rattle.std.specs.Prelude.{◌≡◌, ℕ, ◌+◌, ◌<◌, List, length, nat_le, slice_index}

abbrev pub HalfSteps : List ℕ → ℕ → Type 0
HalfSteps ws q = (i j : ℕ) → i < j → j < length ws → nat_le (slice_index ws i) (slice_index ws j) ≡ nat_le q (i + j)

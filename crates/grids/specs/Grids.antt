-- The grid of a whole alphabet: every pair of its points.
--
--   grid_points ps   the pairs of L whole points ps, by index
--   GridOrder        index i·L + j is the pair of the i-th and the j-th point
--   sums rs is       in the same order, the sum of an amount out of rs and one out of is
--   Sides rs is      amounts of two sides that can be summed so: at most 16 on each, and no sum too large for a key
use Rattle.std.specs.Prelude.{◌≡◌, ℕ, ◌+◌, ◌*◌, ◌/◌, ◌%◌, ◌^◌, ◌<◌, ◌≤◌, List, map, length, slice_index, slice_index_or}
use Rattle.std.specs.List.{range_with_len}
use Rattle.points.specs.Points.{Gaussian, gaussian, origin}

abbrev pub grid_point : List Gaussian → ℕ → Gaussian
grid_point ps k = gaussian (slice_index_or ps (k / length ps) origin).re (slice_index_or ps (k % length ps) origin).re

unfoldable pub grid_points : List Gaussian → List Gaussian
grid_points ps = map (grid_point ps) (range_with_len 0 (length ps * length ps))

abbrev pub GridOrder : Type 0
GridOrder = (ps : List Gaussian) (i j : ℕ) → i < length ps → j < length ps → slice_index_or (grid_points ps) (i * length ps + j) origin ≡ gaussian (slice_index_or ps i origin).re (slice_index_or ps j origin).re

abbrev pub sum_at : List ℕ → List ℕ → ℕ → ℕ
sum_at rs is k = slice_index rs (k / length is) + slice_index is (k % length is)

unfoldable pub sums : List ℕ → List ℕ → List ℕ
sums rs is = map (sum_at rs is) (range_with_len 0 (length rs * length is))

pub record Sides (rs is : List ℕ) : Type 0 where
  pub rows : length rs ≤ 16
  pub columns : length is ≤ 16
  pub small : (i j : ℕ) → i < length rs → j < length is → slice_index rs i + slice_index is j < 2 ^ 42

-- What an alphabet is and answers, by the list of its points.
--
--   Lawful sh pts      pts can be the points of an alphabet of the shape sh: at least one and at most the shape's limit,
--                      each part within −15 to 15, each point of that shape, no two of them equal
--   point_answer       the point at an index, or the refusal of an index that is not below the size
use Rattle.std.specs.Prelude.{◌≡◌, ℕ, ◌<◌, ◌≤◌, List, length, Ok, Err, Result, if◌then◌else◌, ◌≢◌, nat_lt, slice_index_or}
use Rattle.faults.specs.declared.alphabet.AlphabetFault.{AlphabetFault}
use Rattle.faults.specs.declared.alphabet.AlphabetFault.TheVariants.{Index}
use Rattle.points.specs.Points.{Gaussian, origin, Within, Shape, project, size_limit}

pub record Lawful (sh : Shape) (pts : List Gaussian) : Type 0 where
  pub some : 0 < length pts
  pub few : length pts ≤ size_limit sh
  pub near : (i : ℕ) → i < length pts → Within 15 (slice_index_or pts i origin)
  pub own : (i : ℕ) → i < length pts → project sh (slice_index_or pts i origin) ≡ slice_index_or pts i origin
  pub distinct : (i j : ℕ) → i < j → j < length pts → slice_index_or pts i origin ≢ slice_index_or pts j origin

abbrev pub point_answer : List Gaussian → ℕ → Result Gaussian AlphabetFault
point_answer pts i = if nat_lt i (length pts) then Ok (slice_index_or pts i origin) else Err Index

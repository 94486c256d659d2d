-- The limits of rounded words.
--
--   outside b w                 w is not within −b to b − 1
--   first_outside b n i ws      the first place outside, of n places from i on
--   all_within b ws             no word is larger than b, whatever its sign
use Rattle.std.specs.Prelude.{ℕ, zero, suc, ◌+◌, Bool, if◌then◌else◌, ◌||◌, List, ℤ, pos, neg_ℤ, Some, None, Option, int_le, int_lt, nat_le, slice_index_or, unsigned_abs}
use Rattle.std.specs.List.{list_all}

abbrev pub outside : ℕ → ℤ → Bool
outside b w = int_lt w (neg_ℤ (pos b)) || int_le (pos b) w

abbrev pub first_outside : ℕ → ℕ → ℕ → List ℤ → Option ℕ
first_outside b zero i ws = None
first_outside b (suc n) i ws = if outside b (slice_index_or ws i (pos 0)) then Some i else first_outside b n (i + 1) ws

abbrev pub all_within : ℕ → List ℤ → Bool
all_within b ws = list_all (λ w. nat_le (unsigned_abs w) b) ws

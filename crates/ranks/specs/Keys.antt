-- Rank as one number, for whoever weighs many points: the smaller key comes before.
--
--   key a i              the amount a, and below it the index i, which is under 256
--   no_key               above every key: the largest number of 64 bits
--   lesser floor k l     k, if it is not below the floor and less than l, and else l
--   index_of k           the index in a key
--   KeyOrder             keys compare as amounts do, and those of equal amounts as their indices
--   KeyIndex             a key tells its index
--   key_at ws i          the key of the index i in a list of amounts
--   Least ws floor n l   l is the least key, not below the floor, of the indices below n, or no_key where there is none
use Rattle.std.specs.Prelude.{◌≡◌, ℕ, ◌+◌, ◌*◌, ◌%◌, ◌^◌, ◌<◌, ◌≤◌, ◌&&◌, ◌||◌, ◌⊎◌, List, Some, None, Option, if◌then◌else◌, ◌==◌, nat_le, nat_lt, slice_index}

abbrev pub key : ℕ → ℕ → ℕ
key a i = a * 256 + i

abbrev pub no_key : ℕ
no_key = 18446744073709551615

abbrev pub lesser : ℕ → ℕ → ℕ → ℕ
lesser floor k l = if nat_le floor k && nat_lt k l then k else l

abbrev pub index_of : ℕ → Option ℕ
index_of k = if k == no_key then None else Some (k % 256)

abbrev pub KeyOrder : Type 0
KeyOrder = (a b i j : ℕ) → i < 256 → j < 256 → nat_lt (key a i) (key b j) ≡ (nat_lt a b || (a == b && nat_lt i j))

abbrev pub KeyIndex : Type 0
KeyIndex = (a i : ℕ) → a < 2 ^ 42 → i < 256 → index_of (key a i) ≡ Some i

abbrev pub key_at : List ℕ → ℕ → ℕ
key_at ws i = key (slice_index ws i) i

pub record Least (ws : List ℕ) (floor n l : ℕ) : Type 0 where
  pub least : (j : ℕ) → j < n → floor ≤ key_at ws j → l ≤ key_at ws j
  pub reached : (l ≡ no_key) ⊎ ((j : ℕ) × (j < n) × (floor ≤ key_at ws j) × (l ≡ key_at ws j))

-- The codewords in their order, by number.
--
--   numbered m n x   the codeword number x, from 0, of n levels over an alphabet of m points
use Rattle.std.specs.Prelude.{ℕ, zero, suc, ◌/◌, ◌%◌, List, [], ◌∷◌}

abbrev pub numbered : ℕ → ℕ → ℕ → List ℕ
numbered m zero x = []
numbered m (suc n) x = x % m ∷ numbered m n (x / m)

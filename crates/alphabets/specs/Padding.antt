-- Lists in place: the places that a list does not use hold 0.
--
--   padded n is       the list is, with zeros behind it up to n places
--   Filled n k ps     the n places ps hold a list of k indices
use Rattle.std.specs.Prelude.{◌≡◌, ℕ, ◌-◌, ◌≤◌, List, ◌++◌, length, replicate, take}

abbrev pub padded : ℕ → List ℕ → List ℕ
padded n is = is ++ replicate (n - length is) 0

pub record Filled (n k : ℕ) (ps : List ℕ) : Type 0 where
  pub few : k ≤ n
  pub there : length (take k ps) ≡ k
  pub rest : padded n (take k ps) ≡ ps

-- The distance of a codeword from what was received.
--
--   dot rs ss               Σ r_j·s_j
--   distance m zs ss        the sum over l of |z_l − Σ_{j≥l} r_lj·s_j|², for the rows r_l of m: ‖z − R·s‖²
--   distance_of b pts w     the distance of the codeword w in the block b
--   Reached b pts n w d     w is a codeword of n levels, d is its distance, and d is under 2^40
use Rattle.std.specs.Prelude.{◌≡◌, ℕ, ◌+◌, ◌^◌, ◌<◌, List, [], ◌∷◌, length}
use Rattle.points.specs.Points.{Gaussian, origin, plus, minus, times, norm}
use Rattle.blocks.specs.Systems.{System}
use Rattle.codewords.specs.Codewords.{IsCodeword, spelled}

abbrev pub dot : List Gaussian → List Gaussian → Gaussian
dot [] ss = origin
dot (r ∷ rs) [] = origin
dot (r ∷ rs) (s ∷ ss) = plus (times r s) (dot rs ss)

-- a row begins at the diagonal, so the rows below it meet the points from the next level on
abbrev pub distance : List (List Gaussian) → List Gaussian → List Gaussian → ℕ
distance [] zs ss = 0
distance (r ∷ m) [] ss = 0
distance (r ∷ m) (z ∷ zs) [] = 0
distance (r ∷ m) (z ∷ zs) (s ∷ ss) = norm (minus z (dot r (s ∷ ss))) + distance m zs ss

abbrev pub distance_of : System → List Gaussian → List ℕ → ℕ
distance_of b pts w = distance b.matrix b.received (spelled pts w)

pub record Reached (b : System) (pts : List Gaussian) (n : ℕ) (w : List ℕ) (d : ℕ) : Type 0 where
  pub codeword : IsCodeword (length pts) n w
  pub value : d ≡ distance_of b pts w
  pub bound : d < 2 ^ 40

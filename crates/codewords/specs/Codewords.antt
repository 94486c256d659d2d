-- Codewords: one point of the alphabet for each level, by its index, s_1 first.
--
--   IsCodeword m n w      w has n indices, each below the alphabet's size m
--   spelled pts w         the points of w
--   Earlier v w           v comes before w: of the highest level at which they differ, v has the smaller index
use Rattle.std.specs.Prelude.{◌≡◌, ℕ, ◌<◌, ◌⊎◌, List, [], ◌∷◌, map, length, slice_index_or, All}
use Rattle.points.specs.Points.{Gaussian, origin}

abbrev pub IsCodeword : ℕ → ℕ → List ℕ → Type 0
IsCodeword m n w = (length w ≡ n) × All (λ i. i < m) w

abbrev pub spelled : List Gaussian → List ℕ → List Gaussian
spelled pts w = map (λ i. slice_index_or pts i origin) w

abbrev pub Earlier : List ℕ → List ℕ → Type 0
Earlier [] w = ⊥
Earlier (i ∷ v) [] = ⊥
Earlier (i ∷ v) (j ∷ w) = Earlier v w ⊎ ((v ≡ w) × (i < j))

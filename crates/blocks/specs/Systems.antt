-- A block as the system that it stands for: z = R·s + noise, with R triangular.
--
--   System              R by rows, level 1 first, each from the diagonal to the right; and z
--   values sh n i ws    n values, one after another from place i of the words on
--   rows sh n i ws      n rows: the first has a diagonal word and n − 1 values, the next one value less
--   system sh cs zs     the system whose channel words are cs and whose received words are zs
use Rattle.std.specs.Prelude.{ℕ, zero, suc, ◌+◌, ◌*◌, List, [], ◌∷◌, ℤ, pos, slice_index_or}
use Rattle.points.specs.Points.{Gaussian, real, Shape, levels, parts, value_at}

pub record System : Type 0 where
  pub matrix : List (List Gaussian)
  pub received : List Gaussian

abbrev pub values : Shape → ℕ → ℕ → List ℤ → List Gaussian
values sh zero i ws = []
values sh (suc n) i ws = value_at sh ws i ∷ values sh n (i + parts sh) ws

abbrev pub rows : Shape → ℕ → ℕ → List ℤ → List (List Gaussian)
rows sh zero i ws = []
rows sh (suc k) i ws = (real (slice_index_or ws i (pos 0)) ∷ values sh k (i + 1) ws) ∷ rows sh k (i + (1 + parts sh * k)) ws

abbrev pub system : Shape → List ℤ → List ℤ → System
system sh cs zs = record { matrix = rows sh (levels sh) 0 cs; received = values sh (levels sh) 0 zs }

-- Targets: what is left of a received value once the levels above have chosen.
--
--   target_of b pts l is   the target of level l, counted from 0: z_l less the r_lj·s_j of the levels above, whose
--                          indices `is` gives from the next level on
use Rattle.std.specs.Prelude.{ℕ, List, [], drop, slice_index_or}
use Rattle.points.specs.Points.{Gaussian, origin, minus}
use Rattle.blocks.specs.Systems.{System}
use Rattle.codewords.specs.Codewords.{spelled}
use Rattle.codewords.specs.Distances.{dot}

abbrev pub target_of : System → List Gaussian → ℕ → List ℕ → Gaussian
target_of b pts l is = minus (slice_index_or b.received l origin) (dot (drop 1 (slice_index_or b.matrix l [])) (spelled pts is))

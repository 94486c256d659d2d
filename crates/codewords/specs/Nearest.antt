-- The nearest codeword: what a decoder owes.
--
--   Nearest b pts n w d   w is the codeword of n levels nearest to what the block b received, the earlier one among
--                         equals, and d is its distance
--   Decided fault r P     r is that fault, or where there is none a decision of which P holds
--   Settled               a block and an alphabet have no two nearest codewords
use Rattle.std.specs.Prelude.{◌≡◌, ℕ, ◌<◌, ◌⊎◌, List, length, Some, None, Ok, Err, Option, Result, ◌≢◌}
use Rattle.points.specs.Points.{Gaussian}
use Rattle.blocks.specs.Systems.{System}
use Rattle.codewords.specs.Codewords.{IsCodeword, Earlier}
use Rattle.codewords.specs.Distances.{distance_of, Reached}

pub record Nearest (b : System) (pts : List Gaussian) (n : ℕ) (w : List ℕ) (d : ℕ) : Type 0 where
  pub reached : Reached b pts n w d
  pub ahead : (v : List ℕ) → IsCodeword (length pts) n v → (v ≢ w) → (d < distance_of b pts v) ⊎ ((d ≡ distance_of b pts v) × Earlier w v)

abbrev pub Settled : Type 0
Settled = (b : System) (pts : List Gaussian) (n : ℕ) (v w : List ℕ) (c d : ℕ) → Nearest b pts n v c → Nearest b pts n w d → (v ≡ w) × (c ≡ d)

abbrev pub Decided : {D F : Type 0} → Option F → Result D F → (D → Type 0) → Type 0
Decided (Some f) r P = r ≡ Err f
Decided None (Ok d) P = P d
Decided None (Err f) P = ⊥

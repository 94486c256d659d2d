-- A codebook: the codewords of an alphabet, and the block in which they are received.
use Rattle.std.specs.Prelude.{List}
use Rattle.points.specs.Points.{Gaussian}
use Rattle.blocks.specs.Systems.{System}

pub record Codebook : Type 0 where
  pub system : System
  pub points : List Gaussian

-- What a block holds, as the system that it stands for.
--
--   row_of sh k r           the row r, with k values right of the diagonal
--   matrix_of sh n rs       the first n rows; the first of them has n − 1 values right of the diagonal
--   block_of sh b           the block b, read as a block of points of the shape sh
use Rattle.std.specs.Prelude.{ℕ, zero, suc, List, [], ◌∷◌, pos}
use Rattle.points.specs.Points.{Gaussian, real, Shape, levels}
use Rattle.blocks.specs.declared.words.ChannelRow.{ChannelRow}
use Rattle.blocks.specs.declared.words.BlockWords.{BlockWords}
use Rattle.blocks.specs.Systems.{System, values}

abbrev pub row_of : Shape → ℕ → ChannelRow → List Gaussian
row_of sh k r = real (pos r.gain) ∷ values sh k 0 r.words

abbrev pub matrix_of : Shape → ℕ → List ChannelRow → List (List Gaussian)
matrix_of sh zero rs = []
matrix_of sh (suc k) [] = []
matrix_of sh (suc k) (r ∷ rs) = row_of sh k r ∷ matrix_of sh k rs

abbrev pub block_of : Shape → BlockWords → System
block_of sh b = record { matrix = matrix_of sh (levels sh) b.rows; received = values sh (levels sh) 0 b.received }

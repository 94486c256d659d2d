-- How points are written.
--
--   pair_text p   both parts in decimal, the second with its sign, and the letter i: 12-7i
use Rattle.std.specs.Prelude.{ℕ, List, [], ◌∷◌, ◌++◌, ℤ, pos, int_lt, if◌then◌else◌}
use Rattle.std.specs.Fmt.{signed_decimal}
use Rattle.points.specs.declared.pair.Pair.{Pair}

-- the sign that a decimal leaves out
abbrev pub plus_sign : ℤ → List ℕ
plus_sign z = if int_lt z (pos 0) then [] else 43 ∷ []

abbrev pub pair_text : Pair → List ℕ
pair_text p = signed_decimal p.re ++ plus_sign p.im ++ signed_decimal p.im ++ 105 ∷ []

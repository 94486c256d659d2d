-- What a list in place holds.
--
--   list_of i   its indices, in order
use Rattle.std.specs.Prelude.{ℕ, List, take}
use Rattle.alphabets.specs.declared.indices.Indices.{Indices}

abbrev pub list_of : {N : ℕ} → Indices N → List ℕ
list_of i = take i.count i.places

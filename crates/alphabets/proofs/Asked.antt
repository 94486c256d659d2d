-- What an answer says of a list of points, and what a list says of its answer.
use Rattle.std.proofs.Common.{◌≡◌, ℕ, ◌<◌, ◌≤◌, List, length, get_or, Ok, Err, refl, arith}
use Rattle.std.proofs.lemmas.Bool.Decides.{nat_tests}
use Rattle.faults.specs.declared.alphabet.AlphabetFault.TheVariants.{Index}
use Rattle.points.specs.Points.{Gaussian, origin, Shape, whole, pair, project}
use Rattle.alphabets.specs.Alphabets.{point_answer}

pub told : (pts : List Gaussian) (i : ℕ) (p : Gaussian) → i < length pts → p ≡ get_or pts i origin → Ok p ≡ point_answer pts i
told pts i p h e = grind (arith, nat_tests)

pub refused : (pts : List Gaussian) (i : ℕ) → length pts ≤ i → Err Index ≡ point_answer pts i
refused pts i h = grind (arith, nat_tests)

pub told_point : (pts : List Gaussian) (i : ℕ) (p : Gaussian) → Ok p ≡ point_answer pts i → p ≡ get_or pts i origin
told_point pts i p e = grind (arith, nat_tests)

pub project_origin : (sh : Shape) → project sh origin ≡ origin
project_origin whole = refl
project_origin pair = refl

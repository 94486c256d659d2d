-- PAM, pulse amplitude modulation: equally spaced whole numbers around 0.
--
--   pam_size       the number of points
--   size_answer    the size that a number names, or its refusal
--   pam_points n   the n points; the one at index i is 2i − (n − 1)
--   FourRanks      how a PAM of size 4 ranks its points: at the target 0 and the gain 10, at 20 and 10, and at 7 and 0
use Rattle.std.specs.Prelude.{◌≡◌, ℕ, ◌-◌, ◌*◌, List, [], ◌∷◌, map, pos, ◌-ℤ◌, Ok, Err, Result, if◌then◌else◌, ◌==◌}
use Rattle.std.specs.List.{range_with_len}
use Rattle.faults.specs.declared.alphabet.AlphabetFault.{AlphabetFault}
use Rattle.faults.specs.declared.alphabet.AlphabetFault.TheVariants as fault
use Rattle.points.specs.Points.{Gaussian, real}
use Rattle.ranks.specs.Ranks.{ranking}
use Rattle.alphabets.specs.Questions.{amounts}
use Rattle.pams.specs.declared.pam.PamSize.{PamSize}
use Rattle.pams.specs.declared.pam.PamSize.TheVariants.{Two, Four, Eight, Sixteen}

abbrev pub pam_size : PamSize → ℕ
pam_size Two = 2
pam_size Four = 4
pam_size Eight = 8
pam_size Sixteen = 16

abbrev pub size_answer : ℕ → Result PamSize AlphabetFault
size_answer n =
    if n == 2 then Ok Two else
    if n == 4 then Ok Four else
    if n == 8 then Ok Eight else
    if n == 16 then Ok Sixteen else
    Err fault.PamSize

abbrev pub pam_point : ℕ → ℕ → Gaussian
pam_point n i = real (pos (2 * i) -ℤ pos (n - 1))

unfoldable pub pam_points : ℕ → List Gaussian
pam_points n = map (pam_point n) (range_with_len 0 n)

abbrev pub FourRanks : Type 0
FourRanks =
    (ranking (amounts (pam_points 4) (real (pos 0)) 10) ≡ 1 ∷ 2 ∷ 0 ∷ 3 ∷ [])
    × (ranking (amounts (pam_points 4) (real (pos 20)) 10) ≡ 2 ∷ 3 ∷ 1 ∷ 0 ∷ [])
    × (ranking (amounts (pam_points 4) (real (pos 7)) 0) ≡ 0 ∷ 1 ∷ 2 ∷ 3 ∷ [])

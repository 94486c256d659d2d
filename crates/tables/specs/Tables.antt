-- A table: a list of points that a caller holds, and what is looked at before it is taken.
--
--   among s pts            whether s is one of the points
--   point_fault pts i      what is wrong with the point at index i: a part outside −15 to 15, or an equal point at a smaller index
--   points_fault pts n i   the first of these at the n indices from i on
--   size_fault sh pts      no point, or more than the shape sh allows
--   table_fault sh pts     the refusal of a list: of its size, or else the first of its points'
--   passes sh pts          whether there is none
--   table_points sh pts    the points of a table over the list pts: these, if they pass, and else the origin alone
--
-- What makes that the check of an alphabet, whatever the order in which it looks:
--
--   AcceptsLawful         points of the shape sh are not refused exactly if they can be the points of an alphabet
--   Fine pts i            no part of the point at index i is too large, and no point at a smaller index equals it
--   Refusal sh pts f      what the fault f says of a list: all that is looked at before is as it must be, and this is not
--   TellsFirst            a list is refused with the first fault: what it says holds
--   KeepsPoints           a table over a list that passes has the list's points
use Rattle.std.specs.Prelude.{◌≡◌, ℕ, zero, suc, ◌+◌, ◌<◌, ◌≤◌, Bool, true, not, ◌||◌, ◌⊎◌, List, [], ◌∷◌, length, take, is_some, if◌then◌else◌, Some, None, Option, ◌==◌, ◌≢◌, nat_lt, slice_index_or}
use Rattle.std.specs.List.{list_any}
use Rattle.faults.specs.declared.alphabet.AlphabetFault.{AlphabetFault}
use Rattle.faults.specs.declared.alphabet.AlphabetFault.TheVariants as fault
use Rattle.faults.specs.Refusals.{when, or_else, first_of}
use Rattle.points.specs.Points.{Gaussian, origin, same, Within, within, Shape, project, size_limit}
use Rattle.alphabets.specs.Alphabets.{Lawful}

abbrev pub among : Gaussian → List Gaussian → Bool
among s pts = list_any (λ t. same t s) pts

abbrev pub point_fault : List Gaussian → ℕ → Option AlphabetFault
point_fault pts i =
    first_of
    (when (not (within 15 (slice_index_or pts i origin))) (fault.Part i)
    ∷ when (among (slice_index_or pts i origin) (take i pts)) (fault.Repeated i)
    ∷ [])

abbrev pub points_fault : List Gaussian → ℕ → ℕ → Option AlphabetFault
points_fault pts zero i = None
points_fault pts (suc n) i = or_else (point_fault pts i) (points_fault pts n (i + 1))

abbrev pub size_fault : Shape → List Gaussian → Option AlphabetFault
size_fault sh pts = when (length pts == 0 || nat_lt (size_limit sh) (length pts)) fault.TableSize

unfoldable pub table_fault : Shape → List Gaussian → Option AlphabetFault
table_fault sh pts = first_of (size_fault sh pts ∷ points_fault pts (length pts) 0 ∷ [])

abbrev pub passes : Shape → List Gaussian → Bool
passes sh pts = not (is_some (table_fault sh pts))

unfoldable pub table_points : Shape → List Gaussian → List Gaussian
table_points sh pts = if passes sh pts then pts else origin ∷ []

abbrev pub AcceptsLawful : Type 0
AcceptsLawful = (sh : Shape) (pts : List Gaussian) → ((i : ℕ) → i < length pts → project sh (slice_index_or pts i origin) ≡ slice_index_or pts i origin) → (table_fault sh pts ≡ None → Lawful sh pts) × (Lawful sh pts → table_fault sh pts ≡ None)

pub record Fine (pts : List Gaussian) (i : ℕ) : Type 0 where
  pub near : Within 15 (slice_index_or pts i origin)
  pub new : (k : ℕ) → k < i → slice_index_or pts k origin ≢ slice_index_or pts i origin

-- the size is as it must be, and so are the points below index i
pub record FineBelow (sh : Shape) (pts : List Gaussian) (i : ℕ) : Type 0 where
  pub few : length pts ≤ size_limit sh
  pub within : i < length pts
  pub fine : (j : ℕ) → j < i → Fine pts j

abbrev pub Refusal : Shape → List Gaussian → AlphabetFault → Type 0
Refusal sh pts fault.TableSize = (length pts ≡ 0) ⊎ (size_limit sh < length pts)
Refusal sh pts (fault.Part i) = FineBelow sh pts i × (Within 15 (slice_index_or pts i origin) → ⊥)
Refusal sh pts (fault.Repeated i) = FineBelow sh pts i × Within 15 (slice_index_or pts i origin) × ((k : ℕ) × (k < i) × (slice_index_or pts k origin ≡ slice_index_or pts i origin))
Refusal sh pts fault.PamSize = ⊥
Refusal sh pts fault.TargetOrGain = ⊥
Refusal sh pts fault.Index = ⊥

abbrev pub TellsFirst : Type 0
TellsFirst = (sh : Shape) (pts : List Gaussian) (f : AlphabetFault) → table_fault sh pts ≡ Some f → Refusal sh pts f

abbrev pub KeepsPoints : Type 0
KeepsPoints = (sh : Shape) (pts : List Gaussian) → passes sh pts ≡ true → table_points sh pts ≡ pts

-- What an alphabet with the points pts answers.
--
--   askable u r              whether rank can be asked for: no part of the target u is larger than 1,048,576, and the gain r is at most 2047
--   amounts pts u r          the amount of each point
--   first_answer pts u r     the index first in rank
--   next_answer pts u r i    the index that follows i in rank, and none after the last
--
-- Each is an answer or the first refusal that holds: of a target or gain out of range, then of an index not below the size.
use Rattle.std.specs.Prelude.{ℕ, Bool, not, ◌&&◌, List, [], ◌∷◌, map, length, Option, Result, nat_le}
use Rattle.std.specs.Option.{unwrap_or}
use Rattle.faults.specs.declared.alphabet.AlphabetFault.{AlphabetFault}
use Rattle.faults.specs.declared.alphabet.AlphabetFault.TheVariants.{TargetOrGain, Index}
use Rattle.faults.specs.Refusals.{when, first_of, answer}
use Rattle.points.specs.Points.{Gaussian, amount, within}
use Rattle.ranks.specs.Ranks.{first_in, next_in}

-- an index that is not below the size
abbrev pub index_fault : List Gaussian → ℕ → Option AlphabetFault
index_fault pts i = when (nat_le (length pts) i) Index

abbrev pub askable : Gaussian → ℕ → Bool
askable u r = within 1048576 u && nat_le r 2047

abbrev pub rank_fault : Gaussian → ℕ → Option AlphabetFault
rank_fault u r = when (not (askable u r)) TargetOrGain

abbrev pub amounts : List Gaussian → Gaussian → ℕ → List ℕ
amounts pts u r = map (amount u r) pts

abbrev pub first_answer : List Gaussian → Gaussian → ℕ → Result ℕ AlphabetFault
first_answer pts u r = answer (rank_fault u r) (unwrap_or (first_in (amounts pts u r)) 0)

abbrev pub next_answer : List Gaussian → Gaussian → ℕ → ℕ → Result (Option ℕ) AlphabetFault
next_answer pts u r i = answer (first_of (rank_fault u r ∷ index_fault pts i ∷ [])) (next_in (amounts pts u r) i)

-- What the loading of a block refuses, and what it answers.
--
--   row_fault          of one row: its diagonal word, then n other words
--   channel_fault      of the rows that are left, word by word
--   load_fault         of the whole call, in the order of its checks
--   rounded_system     the system of the rounded words
--   load_answer        the fault, or that system
use Rattle.std.specs.Prelude.{ℕ, zero, suc, ◌+◌, ◌*◌, Bool, not, ◌||◌, List, [], ◌∷◌, map, length, ℤ, pos, None, Option, Result, ◌==◌, int_le, int_lt, nat_lt, slice_index_or}
use Rattle.std.specs.Option.{option_map}
use Rattle.faults.specs.Refusals.{when, first_of, answer}
use Rattle.faults.specs.declared.load.LoadFault.{LoadFault}
use Rattle.faults.specs.declared.load.LoadFault.TheVariants.{ExtraBits, ChannelCount, ReceivedCount, Diagonal, Part, Received}
use Rattle.points.specs.Points.{Shape, whole, pair, levels, parts}
use Rattle.blocks.specs.Rounding.{rounded}
use Rattle.blocks.specs.Words.{first_outside}
use Rattle.blocks.specs.Systems.{System, system}

-- how many words the channel list of a block has
abbrev pub channel_word_count : Shape → ℕ
channel_word_count whole = 36
channel_word_count pair = 16

abbrev pub outside_gain : ℤ → Bool
outside_gain w = int_lt w (pos 0) || int_le (pos 2048) w

abbrev pub row_fault : ℕ → ℕ → List ℤ → Option LoadFault
row_fault n i ws =
    first_of (when (outside_gain (slice_index_or ws i (pos 0))) (Diagonal i)
    ∷ option_map Part (first_outside 2048 n (i + 1) ws)
    ∷ [])

abbrev pub channel_fault : Shape → ℕ → ℕ → List ℤ → Option LoadFault
channel_fault sh zero i ws = None
channel_fault sh (suc k) i ws =
    first_of (row_fault (parts sh * k) i ws
    ∷ channel_fault sh k (i + (1 + parts sh * k)) ws
    ∷ [])

abbrev pub load_fault : Shape → ℕ → List ℤ → List ℤ → Option LoadFault
load_fault sh e cs zs =
    first_of (when (nat_lt 8 e) ExtraBits
    ∷ when (not (length cs == channel_word_count sh)) ChannelCount
    ∷ when (not (length zs == 8)) ReceivedCount
    ∷ channel_fault sh (levels sh) 0 (map (rounded e) cs)
    ∷ option_map Received (first_outside 32768 8 0 (map (rounded e) zs))
    ∷ [])

abbrev pub rounded_system : Shape → ℕ → List ℤ → List ℤ → System
rounded_system sh e cs zs = system sh (map (rounded e) cs) (map (rounded e) zs)

abbrev pub load_answer : Shape → ℕ → List ℤ → List ℤ → Result System LoadFault
load_answer sh e cs zs = answer (load_fault sh e cs zs) (rounded_system sh e cs zs)

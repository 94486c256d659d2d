-- Every distance is under 2^40.
use Rattle.std.proofs.Common.{◌≡◌, ℕ, zero, suc, ◌+◌, ◌*◌, ◌^◌, ◌<◌, ◌≤◌, true, List, [], ◌∷◌, length, get_or, ℤ, pos, nat_abs, ap, ⊎_elim, mul-suc, arith, lit<}
use Rattle.std.proofs.lemmas.List.{get_or_past}
use Rattle.std.proofs.lemmas.Bool.{cases_lt}
use Rattle.std.specs.List.{AllByRecursion}
use Rattle.points.specs.Points.{Gaussian, real, origin, minus, times, Within, Shape, whole, pair, levels, parts, project, value_at}
use Rattle.points.proofs.Inside.{Inside, span, origin_inside, times_inside, plus_inside, minus_inside, norm_inside}
use Rattle.alphabets.specs.Alphabets.{Lawful}
use Rattle.blocks.specs.declared.words.ChannelRow.{ChannelRow}
use Rattle.blocks.specs.declared.words.BlockWords.{BlockWords}
use Rattle.blocks.specs.Words.{all_within}
use Rattle.blocks.specs.Systems.{values}
use Rattle.blocks.specs.Blocks.{row_of, matrix_of, block_of}
use Rattle.blocks.proofs.Rows.{value_inside}
use Rattle.codewords.specs.Codewords.{spelled}
use Rattle.codewords.specs.Distances.{dot, distance, distance_of}
use Rattle.codewords.proofs.Targets.{length_values}

dot_inside : (sh : Shape) (rs ss : List Gaussian) → AllByRecursion (Inside sh 2048) rs → AllByRecursion (Inside sh 15) ss → Inside sh (span sh * length rs) (dot rs ss)
dot_inside sh [] ss h k = origin_inside sh (span sh * 0)
dot_inside sh (r ∷ rs) [] h k = origin_inside sh (span sh * suc (length rs))
dot_inside sh (r ∷ rs) (s ∷ ss) h k =
    let more : span sh + span sh * length rs ≡ span sh * suc (length rs) = omega (arith, mul-suc (span sh) (length rs)) in
    rw (← more) (plus_inside sh (span sh) (span sh * length rs) (times r s) (dot rs ss) (times_inside sh r s h.0 k.0) (dot_inside sh rs ss h.1 k.1))

-- what a block and an alphabet hold lies inside
values_inside : (sh : Shape) (b n i : ℕ) (ws : List ℤ) → all_within b ws ≡ true → AllByRecursion (Inside sh b) (values sh n i ws)
values_inside sh b zero i ws t = tt
values_inside sh b (suc n) i ws t = (value_inside sh b ws i t, values_inside sh b n (i + parts sh) ws t)

row_inside : (sh : Shape) (k : ℕ) (r : ChannelRow) → AllByRecursion (Inside sh 2048) (row_of sh k r)
row_inside sh k r = (gain sh, values_inside sh 2048 k 0 r.words r.near)
  where
    gain : (sh : Shape) → Inside sh 2048 (real (pos r.gain))
    gain whole = record { re = omega (arith, r.mild); im = omega arith }
    gain pair = record { re = omega (arith, r.mild); im = omega arith }

point_inside : (sh : Shape) (u : Gaussian) → Within 15 u → project sh u ≡ u → Inside sh 15 u
point_inside whole u near own = record { re = near.re; im = omega (arith, ap (λ (v : Gaussian). nat_abs v.im) own) }
point_inside pair u near own = record { re = near.re; im = near.im }

spelled_inside : (sh : Shape) (pts : List Gaussian) → Lawful sh pts → (w : List ℕ) → AllByRecursion (Inside sh 15) (spelled pts w)
spelled_inside sh pts lawful [] = tt
spelled_inside sh pts lawful (i ∷ w) = (
  ⊎_elim
      (λ h. point_inside sh (get_or pts i origin) (lawful.near i h) (lawful.own i h))
      (λ h. rw (get_or_past pts i origin h) (origin_inside sh 15))
      (cases_lt i (length pts)),
  spelled_inside sh pts lawful w,
)

-- how far the distance of n levels reaches
abbrev reach : Shape → ℕ → ℕ
reach sh zero = 0
reach sh (suc k) = 2 * ((32768 + span sh * suc k) * (32768 + span sh * suc k)) + reach sh k

distance_reach : (sh : Shape) (n i : ℕ) (rs : List ChannelRow) (ws : List ℤ) (ss : List Gaussian) → all_within 32768 ws ≡ true → AllByRecursion (Inside sh 15) ss → distance (matrix_of sh n rs) (values sh n i ws) ss ≤ reach sh n
distance_reach sh zero i rs ws ss t h = omega arith
distance_reach sh (suc k) i [] ws ss t h = omega arith
distance_reach sh (suc k) i (r ∷ rs) ws [] t h = omega arith
distance_reach sh (suc k) i (r ∷ rs) ws (s ∷ ss) t h =
    let row = row_of sh k r in
    let z = value_at sh ws i in
    let sum = rw (length_values sh k 0 r.words) at (dot_inside sh row (s ∷ ss) (row_inside sh k r) h) in
    let here = norm_inside sh (32768 + span sh * suc k) (minus z (dot row (s ∷ ss))) (minus_inside sh 32768 (span sh * suc k) z (dot row (s ∷ ss)) (value_inside sh 32768 ws i t) sum) in
    let rest = distance_reach sh k (i + parts sh) rs ws ss t h.1 in
    omega (arith, here, rest)

reach_small : (sh : Shape) → reach sh (levels sh) < 2 ^ 40
reach_small whole = lit< tt
reach_small pair = lit< tt

pub distance_small : (sh : Shape) (b : BlockWords) (pts : List Gaussian) (w : List ℕ) → Lawful sh pts → distance_of (block_of sh b) pts w < 2 ^ 40
distance_small sh b pts w lawful =
    omega (arith, distance_reach sh (levels sh) 0 b.rows b.received (spelled pts w) b.near (spelled_inside sh pts lawful w), reach_small sh)

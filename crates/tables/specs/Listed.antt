-- The point at an index of a list of points, of either kind.
use Rattle.std.specs.Prelude.{◌≡◌, ℕ, ◌<◌, ◌≤◌, List, map, length, slice_index, slice_index_or}
use Rattle.std.proofs.Common.{ap, ◌∙◌, arith}
use Rattle.std.proofs.lemmas.List.{length-map, get_or-map}
use Rattle.points.specs.Points.{Gaussian, origin, amount, Within, Shape, project}
use Rattle.alphabets.specs.Alphabets.{Lawful}
use Rattle.alphabets.specs.Questions.{amounts}
use Rattle.alphabets.proofs.Ranked.{amounts_at, limit_256}

module _ {K : Type 0} (m : K → Gaussian) (xs : List K) (i : ℕ) (d : K) (h : i < length xs) where
  pub point_at : slice_index_or (map m xs) i origin ≡ m (slice_index_or xs i d)
  point_at = get_or-map m xs i d origin h

  pub own_at : (sh : Shape) → ((p : K) → project sh (m p) ≡ m p) → project sh (slice_index_or (map m xs) i origin) ≡ slice_index_or (map m xs) i origin
  own_at sh own = rw point_at (own (slice_index_or xs i d))

  pub near_at : (sh : Shape) → Lawful sh (map m xs) → Within 15 (m (slice_index_or xs i d))
  near_at sh l = rw (← point_at) (l.near i (rw (length-map xs m) h))

  pub amount_at : (u : Gaussian) (r : ℕ) → slice_index (amounts (map m xs) u r) i ≡ amount u r (m (slice_index_or xs i d))
  amount_at u r = amounts_at (map m xs) u r i (rw (length-map xs m) h) ∙ ap (amount u r) point_at

pub few_read : {K : Type 0} (m : K → Gaussian) (xs : List K) (sh : Shape) → Lawful sh (map m xs) → length xs ≤ 256
few_read m xs sh l = omega (arith, l.few, limit_256 sh, length-map xs m)

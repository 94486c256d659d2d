-- The distance, one level after another.
use Rattle.std.proofs.Common.{◌≡◌, ℕ, ◌+◌, ◌*◌, ◌^◌, ◌<◌, ◌≤◌, List, [], ◌∷◌, length, get_or, drop, ℤ, pos, ◌+ℤ◌, ◌-ℤ◌, ◌*ℤ◌, refl, ap₂, ⊎_elim, arith}
use lib.IntN.{zero-*ℤ}
use Rattle.std.proofs.lemmas.List.{drop_more, drop_all, get_or_past}
use Rattle.std.proofs.lemmas.Bool.{cases_lt}
use Rattle.std.proofs.lemmas.Int.{ints}
use Rattle.points.specs.Points.{Gaussian, real, origin, minus, square, norm, amount}
use Rattle.blocks.specs.Systems.{System}
use Rattle.codewords.specs.Codewords.{spelled}
use Rattle.codewords.specs.Distances.{dot, distance, distance_of}
use Rattle.codewords.specs.Targets.{target_of}

-- what is taken away in two steps, where a gain has no imaginary part
two_steps : (a d p q : ℤ) → q ≡ pos 0 → ((a -ℤ d) -ℤ p ≡ a -ℤ ((p -ℤ q) +ℤ d)) × ((a -ℤ d) -ℤ p ≡ a -ℤ ((p +ℤ q) +ℤ d))
two_steps a d p q none = (omega (arith, ints), omega (arith, ints))

-- the amount at a level's target is the level's part of the distance
pub amount_is : (z s : Gaussian) (g : ℕ) (row ss : List Gaussian) → 0 < length row → real (pos g) ≡ get_or row 0 origin → amount (minus z (dot (drop 1 row) ss)) g s ≡ norm (minus z (dot row (s ∷ ss)))
amount_is z s g [] ss h e = absurd (omega (arith, h))
amount_is z s g (r ∷ rs) ss h e =
    let d = dot rs ss in
    rw (← e) (ap₂ (λ (a b : ℤ). square a + square b) (two_steps z.re d.re (pos g *ℤ s.re) (pos 0 *ℤ s.im) (zero-*ℤ s.im)).0 (two_steps z.im d.im (pos g *ℤ s.im) (pos 0 *ℤ s.re) (zero-*ℤ s.re)).1)

-- the first l levels have the sum, and with the levels that are left it is the distance
pub record Summed (b : System) (pts : List Gaussian) (w : List ℕ) (l sum : ℕ) : Type 0 where
  pub rest : sum + distance (drop l b.matrix) (drop l b.received) (spelled pts (drop l w)) ≡ distance_of b pts w
  pub small : sum ≤ 4398046511104 * l

module _ {b : System} {pts : List Gaussian} {w : List ℕ} {l sum : ℕ} (summed : Summed b pts w l sum) where
  -- one level more, with the gain g, the target u and the point s
  pub one_level : (row : List Gaussian) (g a : ℕ) (u s : Gaussian)
      → l < length w → l < length b.received
      → row ≡ get_or b.matrix l [] → 0 < length row → real (pos g) ≡ get_or row 0 origin
      → u ≡ target_of b pts l (drop (l + 1) w) → s ≡ get_or pts (get_or w l 0) origin
      → a ≡ amount u g s → a < 2 ^ 42
      → Summed b pts w (l + 1) (sum + a)
  one_level row g a u s more there rows some gain target point value small =
      let m = b.matrix in
      let z = get_or b.received l origin in
      let x = get_or pts (get_or w l 0) origin in
      let ss = spelled pts (drop (l + 1) w) in
      let within : l < length m = ⊎_elim (λ t. t) (λ past. absurd (omega (arith, rw (rows, get_or_past m l [] past) at some))) (cases_lt l (length m)) in
      let here = norm (minus z (dot row (x ∷ ss))) in
      let left = distance (drop (l + 1) m) (drop (l + 1) b.received) ss in
      let is : a ≡ here = rw (value, target, point, ← rows) (amount_is z x g row ss some gain) in
      let part : distance (drop l m) (drop l b.received) (spelled pts (drop l w)) ≡ here + left =
      rw (drop_more m l [] within, drop_more b.received l origin there, drop_more w l 0 more, ← rows) (refl {a = here + left}) in
      record {
        rest = omega (arith, is, part, summed.rest);
        small = omega (arith, small, summed.small);
      }

  pub no_level : length w ≤ l → sum ≡ distance_of b pts w
  no_level h = omega (arith, nothing (drop l b.matrix) (drop l b.received), rw (drop_all l w h) at summed.rest)
    where
      nothing : (m : List (List Gaussian)) (zs : List Gaussian) → distance m zs [] ≡ 0
      nothing [] zs = refl
      nothing (r ∷ m) [] = refl
      nothing (r ∷ m) (z ∷ zs) = refl

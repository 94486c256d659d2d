-- Rounding stays within a word.
use Rattle.std.proofs.Common.{◌≡◌, ℕ, zero, suc, ◌+◌, ◌-◌, ◌/◌, ◌%◌, ◌^◌, ◌<◌, ◌≤◌, List, map, length, get_or, take, drop, ℤ, pos, negsuc, ◌+ℤ◌, nat_abs, sym, ap, mul_comm, mul-suc, arith, w32, w64, SFits, to_z, of_z}
use Rattle.std.proofs.lemmas.List.{get_or-map, get_or-take, get_or-drop, length-take, length-drop}
use Rattle.std.specs.Int.Signed.{nat_abs-le}
use Rattle.std.proofs.Math.Facts.{sfits_widen}
use Rattle.std.proofs.lemmas.Nat.{div_below, div-add-mod', mod_below, pow_below}
use Rattle.std.proofs.lemmas.Int.{ints, to_z-of_z, fits_signed_from_abs}
use Rattle.points.proofs.Reach.{nat_abs_add}
use Rattle.blocks.specs.Rounding.{down, RoundsDown, rounded}

-- a quotient and a rest below the divisor
pub rounds_down : RoundsDown
rounds_down (pos n) d h = (n % d, mod_below n d h, ap pos (omega (arith, div-add-mod' n d, mul_comm d (n / d))))
rounds_down (negsuc n) d h =
    let r = mod_below n d h in
    (d - 1 - n % d, omega arith, omega (arith, ints, div-add-mod' n d, mul-suc d (n / d), mul_comm d (n / d)))

-- a quotient by 2 or more of what is a little larger than a word
quotient_fits : (x : ℤ) (d : ℕ) → nat_abs x < 2147483904 → 1 < d → SFits w32 (down x d)
quotient_fits (pos n) d h k = fits_signed_from_abs w32 (pos (n / d)) (div_below n d 2147483648 (omega arith) (omega arith))
quotient_fits (negsuc n) d h k = let q = div_below n d 2147483647 (omega arith) (omega arith) in fits_signed_from_abs w32 (negsuc (n / d)) (omega arith)

-- the word, widened, and half a step make the sum that is divided
pub rounds : (e : ℕ) (w wide half q : ℤ) → 0 < e → e ≤ 8 → SFits w32 w
    → wide ≡ to_z w32 (of_z w32 w) → half ≡ pos (2 ^ (e - 1)) → q ≡ down (to_z w64 (of_z w64 (to_z w64 (of_z w64 wide) +ℤ to_z w64 (of_z w64 half)))) (2 ^ e)
    → (q ≡ rounded e w) × SFits w32 q
rounds zero w wide half q some few fits _ _ _ = absurd (omega arith)
rounds (suc k) w wide half q some few fits widened halved divided =
    let step : suc k - 1 ≡ k = omega arith in
    let same : wide ≡ w = simp to_z-of_z at widened in
    let small : 2 ^ k < 256 = pow_below k 8 (omega arith) in
    let reach : nat_abs (w +ℤ pos (2 ^ k)) < 2147483904 = omega (arith, nat_abs-le w fits.sfits, nat_abs_add w (pos (2 ^ k))) in
    let part : half ≡ pos (2 ^ k) = rw step at halved in
    let fw : SFits w64 wide = rw same (sfits_widen tt fits) in
    let fh : SFits w64 half = rw part (fits_signed_from_abs w64 (pos (2 ^ k)) (omega arith)) in
    let fs : SFits w64 (wide +ℤ half) = rw (same, part) (fits_signed_from_abs w64 (w +ℤ pos (2 ^ k)) (omega arith)) in
    let is : q ≡ rounded (suc k) w = rw (same, part) at (simp to_z-of_z at divided) in
    (is, rw is (quotient_fits (w +ℤ pos (2 ^ k)) (2 ^ suc k) reach (pow_below 0 (suc k) some)))

-- a raw word of the list, rounded, is one of the rounded words
module _ (e : ℕ) (raw ws : List ℤ) (same : map (rounded e) raw ≡ ws) where
  pub word_is : (i : ℕ) → i < length raw → SFits w32 (get_or raw i (pos 0)) → rounded e (to_z w32 (of_z w32 (get_or raw i (pos 0)))) ≡ get_or ws i (pos 0)
  word_is i h f = rw (to_z-of_z, ← same) (sym (get_or-map (rounded e) raw i (pos 0) (pos 0) h))

  pub part_word_is : (i j k : ℕ) → k < length (take (j - i) (drop i raw)) → SFits w32 (get_or (take (j - i) (drop i raw)) k (pos 0)) → rounded e (to_z w32 (of_z w32 (get_or (take (j - i) (drop i raw)) k (pos 0)))) ≡ get_or ws (i + k) (pos 0)
  part_word_is i j k h f =
      let n = simp (length-take, length-drop) at h in
      let p : k < j - i = omega (arith, n) in
      let q : i + k < length raw = omega (arith, n) in
      simp (get_or-take, get_or-drop) (word_is (i + k) q (simp (get_or-take, get_or-drop) at f))

-- How far sums and products of whole numbers reach.
use Rattle.std.proofs.Common.{◌≡◌, ℕ, ◌+◌, ◌*◌, ◌≤◌, ℤ, pos, ◌+ℤ◌, ◌-ℤ◌, ◌*ℤ◌, neg_ℤ, nat_abs, refl, arith, w32, to_z, of_z}
use lib.IntN.{*ℤ-zero, zero-*ℤ}
use Rattle.std.proofs.lemmas.Int.{ints, to_z-of_z, fits_signed_from_abs, unsigned_abs-mul}
use Rattle.std.proofs.lemmas.Nat.{mul-le}
use Rattle.points.specs.Points.{square}

pub nat_abs_add : (a b : ℤ) → nat_abs (a +ℤ b) ≤ nat_abs a + nat_abs b
nat_abs_add a b = omega (arith, ints)

pub nat_abs_sub : (a b : ℤ) → nat_abs (a -ℤ b) ≤ nat_abs a + nat_abs b
nat_abs_sub a b = omega (arith, ints)

pub nat_abs_neg : (z : ℤ) → nat_abs (neg_ℤ z) ≡ nat_abs z
nat_abs_neg z = omega (arith, ints)

pub nat_abs_mul : (a b : ℤ) → nat_abs (a *ℤ b) ≡ nat_abs a * nat_abs b
nat_abs_mul a b = unsigned_abs-mul a b

pub product_le : (r s : ℤ) (m n : ℕ) → nat_abs r ≤ m → nat_abs s ≤ n → nat_abs (r *ℤ s) ≤ m * n
product_le r s m n h k = rw unsigned_abs-mul (mul-le (nat_abs r) (nat_abs s) m n h k)

pub square_reach : (z : ℤ) (b : ℕ) → nat_abs z ≤ b → square z ≤ b * b
square_reach z b h = mul-le (nat_abs z) (nat_abs z) b b h h

-- machine words hold a product of a part of an entry and a part of a point
pub product_is : (r s p : ℤ) → nat_abs r ≤ 2048 → nat_abs s ≤ 15 → p ≡ to_z w32 (of_z w32 r) *ℤ to_z w32 (of_z w32 s) → p ≡ r *ℤ s
product_is r s p h k e =
    let fr = fits_signed_from_abs w32 r (omega arith) in
    let fs = fits_signed_from_abs w32 s (omega arith) in
    simp to_z-of_z at e

-- whole numbers have no imaginary part
pub no_imaginary : (r s : ℤ) → pos 0 ≡ pos 0 -ℤ (r *ℤ pos 0 +ℤ pos 0 *ℤ s)
no_imaginary r s = rw (*ℤ-zero r, zero-*ℤ s) refl

-- How far sums and products reach, part by part: a whole number has no imaginary part to count.
use Rattle.std.proofs.Common.{◌≡◌, ℕ, ◌+◌, ◌*◌, ◌≤◌, nat_abs, refl, arith}
use Rattle.points.specs.Points.{Gaussian, origin, plus, minus, times, norm, Within, Shape, whole, pair}
use Rattle.std.proofs.lemmas.Int.{ints}
use Rattle.points.proofs.Reach.{product_le, square_reach}

-- what b allows of an imaginary part
abbrev pub imaginary : Shape → ℕ → ℕ
imaginary whole b = 0
imaginary pair b = b

imaginary_le : (sh : Shape) (b : ℕ) → imaginary sh b ≤ b
imaginary_le whole b = omega arith
imaginary_le pair b = omega arith

imaginary_plus : (sh : Shape) (a b : ℕ) → imaginary sh a + imaginary sh b ≡ imaginary sh (a + b)
imaginary_plus whole a b = refl
imaginary_plus pair a b = refl

-- no part of u is larger than b, and a whole number has no imaginary part
pub record Inside (sh : Shape) (b : ℕ) (u : Gaussian) : Type 0 where
  pub re : nat_abs u.re ≤ b
  pub im : nat_abs u.im ≤ imaginary sh b

pub inside_within : (sh : Shape) (b : ℕ) (u : Gaussian) → Inside sh b u → Within b u
inside_within sh b u h = record { re = h.re; im = omega (arith, h.im, imaginary_le sh b) }

pub within_inside : (b : ℕ) (u : Gaussian) → Within b u → Inside pair b u
within_inside b u h = record { re = h.re; im = h.im }

-- how far a product of an entry and a point reaches
abbrev pub span : Shape → ℕ
span whole = 30720
span pair = 61440

pub origin_inside : (sh : Shape) (b : ℕ) → Inside sh b origin
origin_inside sh b = record { re = omega arith; im = omega arith }

products : (sh : Shape) → (2048 * 15 + imaginary sh 2048 * imaginary sh 15 ≡ span sh) × (2048 * imaginary sh 15 + imaginary sh 2048 * 15 ≡ imaginary sh (span sh))
products whole = (refl, refl)
products pair = (refl, refl)

pub times_inside : (sh : Shape) (r s : Gaussian) → Inside sh 2048 r → Inside sh 15 s → Inside sh (span sh) (times r s)
times_inside sh r s h k =
    let p = products sh in
    record {
      re = omega (arith, p.0, product_le r.re s.re 2048 15 h.re k.re, product_le r.im s.im (imaginary sh 2048) (imaginary sh 15) h.im k.im, ints);
      im = omega (arith, p.1, product_le r.re s.im 2048 (imaginary sh 15) h.re k.im, product_le r.im s.re (imaginary sh 2048) 15 h.im k.re, ints);
    }

module _ (sh : Shape) (a b : ℕ) (u v : Gaussian) (h : Inside sh a u) (k : Inside sh b v) where
  pub plus_inside : Inside sh (a + b) (plus u v)
  plus_inside = record {
    re = omega (arith, h.re, k.re, ints);
    im = omega (arith, h.im, k.im, imaginary_plus sh a b, ints);
  }

  pub minus_inside : Inside sh (a + b) (minus u v)
  minus_inside = record {
    re = omega (arith, h.re, k.re, ints);
    im = omega (arith, h.im, k.im, imaginary_plus sh a b, ints);
  }

pub norm_inside : (sh : Shape) (b : ℕ) (u : Gaussian) → Inside sh b u → norm u ≤ 2 * (b * b)
norm_inside sh b u h =
    let w = inside_within sh b u h in
    omega (arith, square_reach u.re b w.re, square_reach u.im b w.im)

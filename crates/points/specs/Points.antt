-- Points, and the arithmetic of targets and amounts.
--
--   Gaussian          a complex number with whole parts; a whole number has the imaginary part 0
--   norm              |u|², the sum of both parts' squares
--   amount u r s      |u − r·s|², for a target u, a gain r and a point s
--   Within b u        no part of u is larger than b, whatever its sign
--   within b u        whether it is so
--   same u v          whether two points are equal
--   Shape             the kinds of point: a whole number, or a pair of a real and an imaginary part
--   project           what a point of a shape keeps of two parts
--   levels            how many levels a block has
--   size_limit        how many points an alphabet has at most
--   parts             how many words a channel or received value takes
--   value_at sh ws i  the channel or received value whose words begin at place i of ws, a pair as real then imaginary part
use Rattle.std.specs.Prelude.{ℕ, ◌+◌, ◌*◌, ◌≤◌, Bool, false, ◌&&◌, List, ℤ, pos, negsuc, ◌==◌, ◌+ℤ◌, ◌-ℤ◌, ◌*ℤ◌, nat_le, slice_index_or, unsigned_abs}

pub record Gaussian : Type 0 where
  pub re : ℤ
  pub im : ℤ

abbrev pub gaussian : ℤ → ℤ → Gaussian
gaussian a b = record { re = a; im = b }

abbrev pub real : ℤ → Gaussian
real a = gaussian a (pos 0)

abbrev pub origin : Gaussian
origin = real (pos 0)

abbrev pub plus : Gaussian → Gaussian → Gaussian
plus u v = gaussian (u.re +ℤ v.re) (u.im +ℤ v.im)

abbrev pub minus : Gaussian → Gaussian → Gaussian
minus u v = gaussian (u.re -ℤ v.re) (u.im -ℤ v.im)

abbrev pub times : Gaussian → Gaussian → Gaussian
times r s = gaussian (r.re *ℤ s.re -ℤ r.im *ℤ s.im) (r.re *ℤ s.im +ℤ r.im *ℤ s.re)

abbrev pub square : ℤ → ℕ
square z = unsigned_abs z * unsigned_abs z

abbrev pub norm : Gaussian → ℕ
norm u = square u.re + square u.im

abbrev pub amount : Gaussian → ℕ → Gaussian → ℕ
amount u r s = norm (minus u (gaussian (pos r *ℤ s.re) (pos r *ℤ s.im)))

pub record Within (b : ℕ) (u : Gaussian) : Type 0 where
  pub re : unsigned_abs u.re ≤ b
  pub im : unsigned_abs u.im ≤ b

abbrev pub within : ℕ → Gaussian → Bool
within b u = nat_le (unsigned_abs u.re) b && nat_le (unsigned_abs u.im) b

abbrev pub same_part : ℤ → ℤ → Bool
same_part (pos a) (pos b) = a == b
same_part (pos a) (negsuc b) = false
same_part (negsuc a) (pos b) = false
same_part (negsuc a) (negsuc b) = a == b

abbrev pub same : Gaussian → Gaussian → Bool
same s t = same_part s.re t.re && same_part s.im t.im

pub data Shape : Type 0 where
  whole : Shape
  pair : Shape

abbrev pub project : Shape → Gaussian → Gaussian
project whole u = real u.re
project pair u = u

abbrev pub levels : Shape → ℕ
levels whole = 8
levels pair = 4

abbrev pub size_limit : Shape → ℕ
size_limit whole = 16
size_limit pair = 256

abbrev pub parts : Shape → ℕ
parts whole = 1
parts pair = 2

abbrev pub value_at : Shape → List ℤ → ℕ → Gaussian
value_at whole ws i = real (slice_index_or ws i (pos 0))
value_at pair ws i = gaussian (slice_index_or ws i (pos 0)) (slice_index_or ws (i + 1) (pos 0))

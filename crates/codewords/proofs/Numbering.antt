-- Codewords by number: each has one, and the order is that of the numbers.
use Rattle.std.proofs.Common.{◌≡◌, ℕ, zero, suc, ◌+◌, ◌-◌, ◌*◌, ◌/◌, ◌%◌, ◌^◌, ◌<◌, ◌≤◌, List, [], ◌∷◌, ◌++◌, length, refl, ap, ◌∙◌, ap₂, inl, inr, ⊎_elim, append_assoc, pow-suc, arith}
use native.Mathlib.Nat.{pow-succ', pow-zero, pow-le-pow_left}
use Rattle.std.proofs.Math.Nat.{div-lt_iff_lt-mul, div-mul-le_self}
use Rattle.std.proofs.lemmas.Nat.{div-add-mod', div_below, mod_below, div-mul-add, mod-mul-add, mul-add-lt}
use Rattle.std.proofs.lemmas.Bool.{cases_order}
use Rattle.std.proofs.lemmas.List.Elements.{All-nil, All-cons, All-head, All-tail}
use Rattle.points.specs.Points.{Gaussian, Shape, whole, pair, levels}
use Rattle.alphabets.specs.Alphabets.{Lawful}
use Rattle.codewords.specs.Codewords.{IsCodeword, Earlier}
use Rattle.codewords.specs.Numbers.{numbered}

-- one more index is written
pub written : (m n k rest : ℕ) (is : List ℕ) → k < n → (is ++ rest % m ∷ []) ++ numbered m (n - (k + 1)) (rest / m) ≡ is ++ numbered m (n - k) rest
written m n k rest is h =
    let left : n - k ≡ suc (n - (k + 1)) = omega arith in
    rw left (append_assoc is (rest % m ∷ []) (numbered m (n - (k + 1)) (rest / m)))

-- the first index of a codeword, and the others
parted : (m n i : ℕ) (w : List ℕ) → IsCodeword m (suc n) (i ∷ w) → (i < m) × IsCodeword m n w
parted m n i w h = (All-head (λ j. j < m) i w h.1, (omega (arith, h.0), All-tail (λ j. j < m) i w h.1))

-- the number of a codeword
abbrev pub number_of : ℕ → List ℕ → ℕ
number_of m [] = 0
number_of m (i ∷ w) = number_of m w * m + i

pub number_below : (m n : ℕ) (w : List ℕ) → IsCodeword m n w → number_of m w < m ^ n
number_below m zero [] h = rw pow-zero (omega arith)
number_below m zero (i ∷ w) h = absurd (omega (arith, h.0))
number_below m (suc n) [] h = absurd (omega (arith, h.0))
number_below m (suc n) (i ∷ w) h =
    let p = parted m n i w h in
    rw pow-succ' (mul-add-lt (number_of m w) m i (m ^ n) (number_below m n w p.1) p.0)

pub numbered_number : (m n : ℕ) (w : List ℕ) → IsCodeword m n w → numbered m n (number_of m w) ≡ w
numbered_number m zero [] h = refl
numbered_number m zero (i ∷ w) h = absurd (omega (arith, h.0))
numbered_number m (suc n) [] h = absurd (omega (arith, h.0))
numbered_number m (suc n) (i ∷ w) h =
    let q = number_of m w in
    let p = parted m n i w h in
    ap₂ ◌∷◌ (mod-mul-add q m i p.0) (ap (numbered m n) (div-mul-add q m i p.0) ∙ numbered_number m n w p.1)

pub numbered_codeword : (m n x : ℕ) → 0 < m → IsCodeword m n (numbered m n x)
numbered_codeword m zero x h = (refl, All-nil _)
numbered_codeword m (suc n) x h =
    let p = numbered_codeword m n (x / m) h in
    (ap suc p.0, All-cons (λ i. i < m) (x % m) (numbered m n (x / m)) (mod_below x m h) p.1)

pub numbered_earlier : (m n x y : ℕ) → 0 < m → x < y → y < m ^ n → Earlier (numbered m n x) (numbered m n y)
numbered_earlier m zero x y h l b = absurd (omega (arith, rw pow-zero at b))
numbered_earlier m (suc n) x y h l b =
    ⊎_elim
    (λ same. inr (ap (numbered m n) same, omega (arith, ap (λ (q : ℕ). q * m) same, div-add-mod' x m, div-add-mod' y m)))
    (⊎_elim
    (λ less. inl (numbered_earlier m n (x / m) (y / m) h less (div_below y m (m ^ n) h (rw pow-suc at b))))
    (λ more. absurd (omega (arith, (div-lt_iff_lt-mul h).0 more, div-mul-le_self x m))))
    (cases_order (x / m) (y / m))

-- the codewords are few enough to count
pub count_small : (sh : Shape) (pts : List Gaussian) → Lawful sh pts → length pts ^ levels sh ≤ 2 ^ 32
count_small whole pts h = pow-le-pow_left h.few 8
count_small pair pts h = pow-le-pow_left h.few 4

-- Rank among equally spaced points: where the target stands decides.
use Rattle.std.proofs.Common.{◌≡◌, ℕ, zero, suc, ◌+◌, ◌-◌, ◌*◌, ◌/◌, ◌%◌, ◌<◌, ◌≤◌, min, Bool, true, false, ◌&&◌, ◌||◌, ltb, leb, List, length, get_or, ℤ, pos, negsuc, ◌+ℤ◌, ◌-ℤ◌, ◌*ℤ◌, nat_abs, Some, None, Ok, Option, sym, refl, ap, ◌∙◌, subst, ap₂, ⊎_elim, mul_comm, mul-le-mul_right, zero-mul, suc-mul, mul-add, mul_left_comm, arith, w32, SFits, to_z, of_z}
use native.Mathlib.Nat.{mul-lt-mul_of_pos_left}
use lib.IntN.{*ℤ-zero, zero-*ℤ, suc_ℤ-*ℤ}
use lib.Signed.{le_z}
use Rattle.std.proofs.lemmas.Nat.{mul-le, mul-lt}
use Rattle.std.proofs.lemmas.Grind.{div_ceil_times}
use Rattle.std.proofs.lemmas.Int.{ints, to_z-of_z, to_z_pos, fits_signed_from_abs}
use Rattle.std.proofs.lemmas.Bool.{cases_lt, le-leb, lt-leb}
use Rattle.std.proofs.lemmas.Bool.Decides.{nat_tests}
use Rattle.std.specs.Option.{SomeIff}
use Rattle.points.specs.Points.{square, amount, real}
use Rattle.ranks.specs.Ranks.{before, first_in, next_in}
use Rattle.ranks.proofs.Ranks.{first_is, next_is, last_is}
use Rattle.alphabets.specs.Questions.{askable, rank_fault, amounts, first_answer, next_answer}
use Rattle.alphabets.proofs.Ranked.{Asked, asked, accepted, told_first, told_next, amounts_length, amounts_at}
use Rattle.pams.specs.Pams.{pam_point, pam_points}
use Rattle.pams.specs.Steps.{HalfSteps}
use Rattle.pams.specs.PamsLemmas.{pam_length, pam_at}

-- ---- from half steps to rank

-- i comes before j, where the target stands q half steps above the first point
abbrev ahead : ℕ → ℕ → ℕ → Bool
ahead q i j = (ltb i j && leb q (i + j)) || (ltb j i && ltb (i + j) q)

module _ (ws : List ℕ) (q : ℕ) (h : HalfSteps ws q) where
  before_steps : (i j : ℕ) → i < length ws → j < length ws → before ws i j ≡ ahead q i j
  before_steps i j p r = grind (arith, nat_tests, h i j, h j i)

  pub step_first : (n k : ℕ) → length ws ≡ n → 0 < n → k ≡ min (q / 2) (n - 1) → first_in ws ≡ Some k
  step_first n k e some is = first_is ws k (record { here = omega arith; least = λ j b. before_steps j k b (omega arith) ∙ grind (arith, nat_tests) })

  module _ (i : ℕ) (within : i < length ws) where
    follows : (k : ℕ) → k < length ws → ahead q i k ≡ true → ((j : ℕ) → j < length ws → ahead q i j ≡ true → ahead q j k ≡ false) → next_in ws i ≡ Some k
    follows k b later least =
        next_is ws i k within (record {
          here = b;
          later = before_steps i k within b ∙ later;
          least = λ j l t. before_steps j k l b ∙ least j l (sym (before_steps i j within l) ∙ t);
        })

    ends : ((j : ℕ) → j < length ws → ahead q i j ≡ false) → next_in ws i ≡ None
    ends least = last_is ws i within (λ j l. before_steps i j within l ∙ least j l)

    -- below the target, and what mirrors it is a point
    pub step_over : (k : ℕ) → 2 * i < q → k ≡ q - i → k < length ws → next_in ws i ≡ Some k
    step_over k low is b = follows k b (grind (arith, nat_tests)) (λ j l t. grind (arith, nat_tests))

    -- below the target, and the points above are used up
    pub step_away : (k : Option ℕ) → 2 * i < q → length ws ≤ q - i → SomeIff k (1 ≤ i) (i - 1) → next_in ws i ≡ k
    step_away (Some k) low past h = follows k (omega arith) (grind (arith, nat_tests)) (λ j l t. grind (arith, nat_tests))
    step_away None low past none = let z : i < 1 = omega arith in ends (λ j l. grind (arith, nat_tests))

    -- not below the target, and what mirrors it is a point
    pub step_back : (k : ℕ) → q ≤ 2 * i → i < q → k ≡ q - i - 1 → next_in ws i ≡ Some k
    step_back k high low is = follows k (omega arith) (grind (arith, nat_tests)) (λ j l t. grind (arith, nat_tests))

    -- not below the target, and the points below are used up
    pub step_up : q ≤ 2 * i → q ≤ i → i + 1 < length ws → next_in ws i ≡ Some (i + 1)
    step_up high past b = follows (i + 1) b (grind (arith, nat_tests)) (λ j l t. grind (arith, nat_tests))

    pub step_top : q ≤ 2 * i → q ≤ i → length ws ≤ i + 1 → next_in ws i ≡ None
    step_top high past end = ends (λ j l. grind (arith, nat_tests))

-- ---- from amounts to half steps

product_minus : (r a b : ℕ) → pos r *ℤ (pos a -ℤ pos b) ≡ pos (r * a) -ℤ pos (r * b)
product_minus zero a b = omega (arith, ints, zero-*ℤ (pos a -ℤ pos b), zero-mul a, zero-mul b)
product_minus (suc r) a b = omega (arith, ints, suc_ℤ-*ℤ (pos r) (pos a -ℤ pos b), product_minus r a b, suc-mul r a, suc-mul r b)

-- a target above the first point
abbrev pub stand : ℕ → ℤ → ℕ → ℤ
stand n u r = u +ℤ pos ((n - 1) * r)

pam_amount : (n i : ℕ) (u : ℤ) (r : ℕ) → amount (real u) r (pam_point n i) ≡ square (stand n u r -ℤ pos (2 * (r * i)))
pam_amount n i u r =
    let p = product_minus r (2 * i) (n - 1) in
    let same : u -ℤ pos r *ℤ (pos (2 * i) -ℤ pos (n - 1)) ≡ stand n u r -ℤ pos (2 * (r * i)) = omega (arith, ints, p, mul_left_comm r 2 i, mul_comm r (n - 1)) in
    let none : square (pos 0 -ℤ pos r *ℤ pos 0) ≡ 0 = ap (λ (z : ℤ). square (pos 0 -ℤ z)) (*ℤ-zero (pos r)) in
    omega (arith, ap square same, none)

-- squares compare as sizes do
squares : (a b : ℕ) → leb (a * a) (b * b) ≡ leb a b
squares a b = grind (arith, nat_tests, mul-le a a b b, mul-lt b b a a)

-- of two multiples, the lower is at least as near exactly where v is not above their middle
nearer : (v : ℤ) (x y : ℕ) → x < y → leb (square (v -ℤ pos (2 * x))) (square (v -ℤ pos (2 * y))) ≡ le_z v (pos (x + y))
nearer v x y h = squares (nat_abs (v -ℤ pos (2 * x))) (nat_abs (v -ℤ pos (2 * y))) ∙ sizes v
  where
    sizes : (v : ℤ) → leb (nat_abs (v -ℤ pos (2 * x))) (nat_abs (v -ℤ pos (2 * y))) ≡ le_z v (pos (x + y))
    sizes (pos m) = ⊎_elim (λ l. lt-leb _ _ (omega (arith, ints)) ∙ sym (lt-leb m (x + y) l)) (λ l. le-leb _ _ (omega (arith, ints)) ∙ sym (le-leb m (x + y) l)) (cases_lt (x + y) m)
    sizes (negsuc m) = le-leb _ _ (omega (arith, ints))

-- a quotient rounded up is at most m exactly where m divisors reach
rounded_up : (v r m : ℕ) → 0 < r → leb v (r * m) ≡ leb (v / r + min 1 (v % r)) m
rounded_up v r m h =
    let c = v / r + min 1 (v % r) in
    let d = div_ceil_times v r h in
    ⊎_elim
    (λ p. lt-leb v (r * m) (omega (arith, d, mul_comm r m, suc-mul m r, mul-le-mul_right r p)) ∙ sym (lt-leb c m p))
    (λ p. le-leb v (r * m) (omega (arith, d, mul_comm r m, mul-le-mul_right r p)) ∙ sym (le-leb c m p))
    (cases_lt m c)

-- ---- the amounts of a PAM

module _ (n : ℕ) (u : ℤ) (r : ℕ) where
  by_points : (q : ℕ) → ((i j : ℕ) → i < j → leb (square (stand n u r -ℤ pos (2 * (r * i)))) (square (stand n u r -ℤ pos (2 * (r * j)))) ≡ leb q (i + j)) → HalfSteps (amounts (pam_points n) (real u) r) q
  by_points q h i j l b =
      let e = amounts_length (pam_points n) (real u) r in
      let f = pam_length n in
      let at : (k : ℕ) → k < n → get_or (amounts (pam_points n) (real u) r) k 0 ≡ square (stand n u r -ℤ pos (2 * (r * k))) = λ k m. amounts_at (pam_points n) (real u) r k (omega (arith, f, m)) ∙ ap (amount (real u) r) (pam_at n k m) ∙ pam_amount n k u r in
      ap₂ leb (at i (omega arith)) (at j (omega arith)) ∙ h i j l

  pub no_gain : r ≡ 0 → HalfSteps (amounts (pam_points n) (real u) r) 0
  no_gain e = by_points 0 (λ i j l. rw (nothing i, nothing j) (grind (arith, nat_tests)))
    where
      nothing : (k : ℕ) → r * k ≡ 0
      nothing k = rw (e, zero-mul k) refl

  spaced : 0 < r → (i j : ℕ) → i < j → leb (square (stand n u r -ℤ pos (2 * (r * i)))) (square (stand n u r -ℤ pos (2 * (r * j)))) ≡ le_z (stand n u r) (pos (r * (i + j)))
  spaced h i j l = nearer (stand n u r) (r * i) (r * j) (mul-lt-mul_of_pos_left l h) ∙ ap (λ (k : ℕ). le_z (stand n u r) (pos k)) (sym (mul-add r i j))

  pub at_first : 0 < r → le_z (stand n u r) (pos 0) ≡ true → HalfSteps (amounts (pam_points n) (real u) r) 0
  at_first h low = by_points 0 (λ i j l. spaced h i j l ∙ under (stand n u r) low (r * (i + j)) ∙ sym (le-leb 0 (i + j) (omega arith)))
    where
      under : (v : ℤ) → le_z v (pos 0) ≡ true → (k : ℕ) → le_z v (pos k) ≡ true
      under (pos m) low k = grind (arith, nat_tests)
      under (negsuc m) low k = refl

  pub above_first : (q : ℕ) → 0 < r → le_z (stand n u r) (pos 0) ≡ false → q ≡ nat_abs (stand n u r) / r + min 1 (nat_abs (stand n u r) % r) → HalfSteps (amounts (pam_points n) (real u) r) q
  above_first q h high is =
      let m = nat_abs (stand n u r) in
      by_points q (λ i j l. spaced h i j l ∙ ap (λ (v : ℤ). le_z v (pos (r * (i + j)))) (over (stand n u r) high) ∙ rounded_up m r (i + j) h ∙ ap (λ (k : ℕ). leb k (i + j)) (sym is))
    where
      over : (v : ℤ) → le_z v (pos 0) ≡ false → v ≡ pos (nat_abs v)
      over (pos m) high = refl
      over (negsuc m) high = grind arith

-- ---- what the machine's words hold

module _ (n : ℕ) (u : ℤ) (r : ℕ) (few : n ≤ 16) (ask : askable (real u) r ≡ true) where
  limits : Asked (real u) r
  limits = asked (real u) r ask

  middle_small : (n - 1) * r ≤ 30705
  middle_small = mul-le (n - 1) r 15 2047 (omega arith) limits.gain

  stand_reach : nat_abs (stand n u r) ≤ 1079281
  stand_reach = omega (arith, ints, limits.target.re, middle_small)

  pub stand_word : SFits w32 u → to_z w32 (of_z w32 (to_z w32 (of_z w32 u) +ℤ to_z w32 ((n - 1) * r))) ≡ stand n u r
  stand_word f = rw (to_z_pos w32 ((n - 1) * r) (omega (arith, middle_small)), to_z-of_z w32 u f) (to_z-of_z w32 (stand n u r) (fits_signed_from_abs w32 (stand n u r) (omega (arith, stand_reach))))

-- ---- what a PAM answers, as the code finds it with the size m

module _ {n m : ℕ} (u : ℤ) (r q : ℕ) (e : m ≡ n) (left : rank_fault (real u) r ≡ None) (h : HalfSteps (amounts (pam_points m) (real u) r) q) where
  size : length (amounts (pam_points n) (real u) r) ≡ m
  size = amounts_length (pam_points n) (real u) r ∙ pam_length n ∙ sym e

  steps : HalfSteps (amounts (pam_points n) (real u) r) q
  steps = subst (λ (k : ℕ). HalfSteps (amounts (pam_points k) (real u) r) q) e h

  pub first_answered : (k : ℕ) → ((ws : List ℕ) → length ws ≡ m → HalfSteps ws q → first_in ws ≡ Some k) → Ok k ≡ first_answer (pam_points n) (real u) r
  first_answered k f = told_first (pam_points n) (real u) r k (accepted (real u) r left) (f (amounts (pam_points n) (real u) r) size steps)

  pub next_answered : (i : ℕ) (k : Option ℕ) → i < m → ((ws : List ℕ) → length ws ≡ m → HalfSteps ws q → next_in ws i ≡ k) → Ok k ≡ next_answer (pam_points n) (real u) r i
  next_answered i k b f = told_next (pam_points n) (real u) r i k (accepted (real u) r left) (omega (arith, pam_length n)) (f (amounts (pam_points n) (real u) r) size steps)

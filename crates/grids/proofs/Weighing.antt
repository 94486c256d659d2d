-- The amounts of a grid are sums of its sides' amounts; who weighs the sides ranks the grid.
use Rattle.std.proofs.Common.{◌≡◌, ℕ, zero, suc, ◌+◌, ◌*◌, ◌/◌, ◌%◌, ◌<◌, ◌≤◌, true, false, List, ◌++◌, take, length, get_or, set, ℤ, pos, ◌-ℤ◌, ◌*ℤ◌, None, Ok, Option, sym, ap, ◌∙◌, subst, ap₂, mul-le-mul_right, mul-zero, arith, below_more}
use lib.IntN.{*ℤ-zero}
use Rattle.std.proofs.lemmas.Nat.{mul-le, mul-add-lt, div-mul-add, mod-mul-add, div_below, mod_below, div-add-mod'}
use Rattle.std.proofs.lemmas.List.FromFn.{length-map-range_with_len, get_or-map-range_with_len}
use Rattle.std.proofs.lemmas.List.{ext_get_or, get_or-set_same, get_or-set_other}
use Rattle.std.proofs.Math.Seq.{take-append_seam}
use Rattle.std.proofs.lemmas.Bool.Decides.{nat_tests}
use Rattle.points.specs.Points.{Gaussian, real, origin, square, amount, whole, pair}
use Rattle.ranks.specs.Ranks.{before, next_in}
use Rattle.ranks.specs.Keys.{Least, key, lesser, index_of}
use Rattle.ranks.proofs.Ranks.{IsFirst, first_is, is_first}
use Rattle.ranks.proofs.Keys.{Keyed, least_more, least_next}
use Rattle.alphabets.specs.Alphabets.{Lawful}
use Rattle.alphabets.specs.Questions.{askable, rank_fault, amounts, first_answer, next_answer}
use Rattle.alphabets.proofs.Ranked.{accepted, asked, first_told, told_first, told_next, amounts_length, amounts_at, amounts_keyed}
use Rattle.grids.specs.Grids.{grid_points, sum_at, sums, Sides}
use Rattle.grids.specs.GridsLemmas.{grid_length, grid_at, grid_lawful, grid_size}

-- ---- sums

pub sums_length : (rs is : List ℕ) → length (sums rs is) ≡ length rs * length is
unfolding sums
sums_length rs is = length-map-range_with_len (sum_at rs is) 0 (length rs * length is)

sums_place : (rs is : List ℕ) (k : ℕ) → k < length rs * length is → get_or (sums rs is) k 0 ≡ sum_at rs is k
unfolding sums
sums_place rs is k h = get_or-map-range_with_len (sum_at rs is) 0 (length rs * length is) k k 0 h (omega arith)

-- the sum of row i and column j
pub sums_at : (rs is : List ℕ) (i j : ℕ) → i < length rs → j < length is → get_or (sums rs is) (i * length is + j) 0 ≡ get_or rs i 0 + get_or is j 0
sums_at rs is i j p q =
    let n = length is in
    sums_place rs is (i * n + j) (omega (arith, mul-add-lt i n j (length rs) p q)) ∙ ap₂ (λ (a b : ℕ). get_or rs a 0 + get_or is b 0) (div-mul-add i n j q) (mod-mul-add i n j q)

real_amount : (a : ℤ) (r : ℕ) (s : Gaussian) → real s.re ≡ s → amount (real a) r s ≡ square (a -ℤ pos r *ℤ s.re)
real_amount a r s own =
    let im : s.im ≡ pos 0 = sym (ap (λ (p : Gaussian). p.im) own) in
    let none : square (pos 0 -ℤ pos r *ℤ s.im) ≡ 0 = ap (λ (z : ℤ). square (pos 0 -ℤ pos r *ℤ z)) im ∙ ap (λ (z : ℤ). square (pos 0 -ℤ z)) (*ℤ-zero (pos r)) in
    omega (arith, none)

-- the amounts of a grid are the sums of the amounts of its sides
pub grid_amounts : (ps : List Gaussian) (u : Gaussian) (r : ℕ) → Lawful whole ps → amounts (grid_points ps) u r ≡ sums (amounts ps (real u.re) r) (amounts ps (real u.im) r)
grid_amounts ps u r l =
    let n = length ps in
    let rs = amounts ps (real u.re) r in
    let is = amounts ps (real u.im) r in
    let lr : length rs ≡ n = amounts_length ps (real u.re) r in
    let li : length is ≡ n = amounts_length ps (real u.im) r in
    let size : length (amounts (grid_points ps) u r) ≡ n * n = amounts_length (grid_points ps) u r ∙ grid_length ps in
    let product : length rs * length is ≡ n * n = (λ t. lr t * li t) in
    ext_get_or 0 (amounts (grid_points ps) u r) (sums rs is) (size ∙ sym product ∙ sym (sums_length rs is)) (λ k h.
    let b : k < n * n = omega (arith, size) in
    let p : k / n < n = div_below k n n l.some b in
    let q : k % n < n = mod_below k n l.some in
    amounts_at (grid_points ps) u r k (omega (arith, grid_length ps))
    ∙ ap (amount u r) (grid_at ps k b)
    ∙ ap₂ ◌+◌ (sym (amounts_at ps (real u.re) r (k / n) p ∙ real_amount u.re r (get_or ps (k / n) origin) (l.own (k / n) p))) (sym (amounts_at ps (real u.im) r (k % n) q ∙ real_amount u.im r (get_or ps (k % n) origin) (l.own (k % n) q)))
    ∙ sym (sums_place rs is k (omega (arith, product)) ∙ ap (λ (m : ℕ). get_or rs (k / m) 0 + get_or is (k % m) 0) li))

-- ---- the first of a grid is made of the firsts of its sides

module _ (rs is : List ℕ) (a b : ℕ) (f : IsFirst rs a) (g : IsFirst is b) where
  least_sum : (x y : ℕ) → x < length rs → y < length is → before (sums rs is) (x * length is + y) (a * length is + b) ≡ false
  least_sum x y hx hy =
      let sx = sums_at rs is x y hx hy in
      let sa = sums_at rs is a b f.here g.here in
      grind (arith, nat_tests, f.least x hx, g.least y hy, mul-le-mul_right {m = a} {n = x} (length is))

  first_sum : IsFirst (sums rs is) (a * length is + b)
  first_sum =
      let n = length is in
      record {
        here = rw (sums_length rs is) (omega (arith, mul-add-lt a n b (length rs) f.here g.here));
        least = λ j h.
            let below : j < length rs * n = rw (sums_length rs is) at h in
            let some : 0 < n = omega (arith, g.here) in
            subst (λ (k : ℕ). before (sums rs is) k (a * n + b) ≡ false) (div-add-mod' j n) (least_sum (j / n) (j % n) (div_below j n (length rs) some below) (mod_below j n some));
      }

module _ {ps : List Gaussian} (u : Gaussian) (r : ℕ) {n a b : ℕ} (l : Lawful whole ps) (e : n ≡ length ps) (p : Ok a ≡ first_answer ps (real u.re) r) (q : Ok b ≡ first_answer ps (real u.im) r) where
  pub grid_answered : (a * n + b < 256) × (Ok (a * n + b) ≡ first_answer (grid_points ps) u r)
  grid_answered =
      let rs = amounts ps (real u.re) r in
      let is = amounts ps (real u.im) r in
      let f = first_told ps (real u.re) r a l.some p in
      let g = first_told ps (real u.im) r b l.some q in
      let size : length is ≡ n = amounts_length ps (real u.im) r ∙ sym e in
      let first : IsFirst (amounts (grid_points ps) u r) (a * n + b) = rw (grid_amounts ps u r l, ← size) (first_sum rs is a b (is_first rs a f.1) (is_first is b g.1)) in
      let ask : askable u r ≡ true = grind (arith, f.0, g.0) in
      (omega (arith, first.here, amounts_length (grid_points ps) u r, (grid_lawful ps l).few), told_first (grid_points ps) u r (a * n + b) ask (first_is (amounts (grid_points ps) u r) (a * n + b) first))

-- ---- loops

-- one point more of a row that begins at s
pub row_more : (ws : List ℕ) (floor s j l x : ℕ) → x ≡ key (get_or ws (s + j) 0) (s + j) → Least ws floor (s + j) l → Least ws floor (s + (j + 1)) (lesser floor x l)
row_more ws floor s j l x e h = subst (λ (n : ℕ). Least ws floor n (lesser floor x l)) (omega arith) (least_more ws floor (s + j) l x e h)

-- ---- the next among sums

some_columns : (m n k : ℕ) → k < m * n → 0 < n
some_columns m zero k b = omega (arith, mul-zero m)
some_columns m (suc n) k b = omega arith

module _ (rs is : List ℕ) (s : Sides rs is) where
  keyed : Keyed (sums rs is)
  keyed = record {
    few = omega (arith, sums_length rs is, mul-le (length rs) (length is) 16 16 s.rows s.columns);
    small = λ k h.
        let b : k < length rs * length is = omega (arith, h, sums_length rs is) in
        let some : 0 < length is = some_columns (length rs) (length is) k b in
        rw (sums_place rs is k b) (s.small (k / length is) (k % length is) (div_below k (length is) (length rs) some b) (mod_below k (length is) some));
  }

  pub next_among : (k : ℕ) → k < length rs * length is → (floor least : ℕ) → floor ≡ key (get_or rs (k / length is) 0 + get_or is (k % length is) 0) k + 1 → Least (sums rs is) floor (length rs * length is) least → index_of least ≡ next_in (sums rs is) k
  next_among k b floor least e h =
      least_next (sums rs is) keyed (length rs * length is) k least (sym (sums_length rs is)) b
      (subst (λ (f : ℕ). Least (sums rs is) f (length rs * length is) least) (e ∙ ap (λ (a : ℕ). key a k + 1) (sym (sums_place rs is k b))) h)

-- ---- weighing a side

-- the first i of ws are amounts
abbrev pub Weighed : List Gaussian → Gaussian → ℕ → List ℕ → ℕ → Type 0
Weighed ps u r ws i = (k : ℕ) → k < i → get_or ws k 0 ≡ get_or (amounts ps u r) k 0

module _ (ps : List Gaussian) (u : Gaussian) (r : ℕ) (ws : List ℕ) {i : ℕ} (size : length ws ≡ length ps) (weighed : Weighed ps u r ws i) where
  pub one_weighed : {a : ℕ} {s : Gaussian} → i < length ps → s ≡ get_or ps i origin → a ≡ amount u r s → Weighed ps u r (set ws i a) (i + 1)
  one_weighed {a} h point value =
      let here : a ≡ get_or (amounts ps u r) i 0 = rw (amounts_at ps u r i h, ← point) value in
      below_more _ _ (λ k l. get_or-set_other ws i k a 0 (λ same. omega arith) ∙ weighed k l) (get_or-set_same ws i a 0 (omega arith) ∙ here)

  pub all_weighed : length ps ≤ i → ws ≡ amounts ps u r
  all_weighed h = ext_get_or 0 ws (amounts ps u r) (size ∙ sym (amounts_length ps u r)) (λ k l. weighed k (omega arith))

-- ---- the next of a grid, from the weighed sides

-- what is written at the front of a longer array
pub in_front : (ps : List Gaussian) (a : ℤ) (r : ℕ) (ws rest : List ℕ) (n : ℕ) → ws ≡ amounts ps (real a) r → n ≡ length ps → take n (ws ++ rest) ≡ amounts ps (real a) r
in_front ps a r ws rest n e size = rw (e, size, ← amounts_length ps (real a) r) (take-append_seam (amounts ps (real a) r) rest)

module _ {ps : List Gaussian} (u : Gaussian) (r : ℕ) (ws vs : List ℕ) (l : Lawful whole ps) (left : rank_fault u r ≡ None) (p : ws ≡ amounts ps (real u.re) r) (q : vs ≡ amounts ps (real u.im) r) where
  all_sums : sums ws vs ≡ amounts (grid_points ps) u r
  all_sums = ap₂ sums p q ∙ sym (grid_amounts ps u r l)

  pub sides : Sides ws vs
  sides = record {
    rows = rw (p, amounts_length ps (real u.re) r) l.few;
    columns = rw (q, amounts_length ps (real u.im) r) l.few;
    small = λ i j hi hj.
        let keyed = amounts_keyed pair (grid_points ps) u r (grid_lawful ps l) (asked u r (accepted u r left)) in
        let k = i * length vs + j in
        let size : k < length (amounts (grid_points ps) u r) = rw (← all_sums, sums_length ws vs) (omega (arith, mul-add-lt i (length vs) j (length ws) hi hj)) in
        omega (arith, keyed.small k size, sums_at ws vs i j hi hj, ap (λ (xs : List ℕ). get_or xs k 0) all_sums);
  }

  pub next_answered : (k : ℕ) {n : ℕ} {a : Option ℕ} → n ≡ length ps → k < n * n → a ≡ next_in (sums ws vs) k → Ok a ≡ next_answer (grid_points ps) u r k
  next_answered k {n} {a} e b h = told_next (grid_points ps) u r k a (accepted u r left) (omega (arith, b, grid_size ps n e)) (sym (h ∙ ap (λ (xs : List ℕ). next_in xs k) all_sums))

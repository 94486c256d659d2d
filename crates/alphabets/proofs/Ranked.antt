-- What a question about rank gives to its answer, and what the answer takes.
use Rattle.std.proofs.Common.{◌≡◌, ℕ, ◌*◌, ◌^◌, ◌<◌, ◌≤◌, true, List, length, get_or, ℤ, pos, ◌-ℤ◌, ◌*ℤ◌, nat_abs, Some, None, Ok, Err, Option, arith}
use Rattle.std.proofs.lemmas.List.{length-map, get_or-map}
use Rattle.std.proofs.lemmas.Bool.Decides.{nat_tests}
use Rattle.faults.specs.declared.alphabet.AlphabetFault.{AlphabetFault}
use Rattle.points.specs.Points.{Gaussian, origin, square, amount, Within, within, Shape, whole, pair, size_limit}
use Rattle.points.proofs.Reach.{product_le, square_reach}
use Rattle.std.proofs.lemmas.Int.{ints}
use Rattle.ranks.specs.Ranks.{first_in, next_in}
use Rattle.ranks.proofs.Ranks.{some_first}
use Rattle.ranks.proofs.Keys.{Keyed}
use Rattle.alphabets.specs.Alphabets.{Lawful}
use Rattle.alphabets.specs.Questions.{askable, rank_fault, amounts, first_answer, next_answer}

-- ---- what is known once a question was not refused

pub record Asked (u : Gaussian) (r : ℕ) : Type 0 where
  pub target : Within 1048576 u
  pub gain : r ≤ 2047

pub within_told : (b : ℕ) (u : Gaussian) → within b u ≡ true → Within b u
within_told b u e = record { re = grind (arith, nat_tests); im = grind (arith, nat_tests) }

pub asked : (u : Gaussian) (r : ℕ) → askable u r ≡ true → Asked u r
asked u r e = record { target = within_told 1048576 u (grind (arith, nat_tests)); gain = grind (arith, nat_tests) }

pub accepted : (u : Gaussian) (r : ℕ) → rank_fault u r ≡ None → askable u r ≡ true
accepted u r e = grind arith

-- ---- answers

module _ (pts : List Gaussian) (u : Gaussian) (r : ℕ) where
  pub told_first : (k : ℕ) → askable u r ≡ true → first_in (amounts pts u r) ≡ Some k → Ok k ≡ first_answer pts u r
  told_first k a e = grind arith

  pub told_next : (i : ℕ) (k : Option ℕ) → askable u r ≡ true → i < length pts → next_in (amounts pts u r) i ≡ k → Ok k ≡ next_answer pts u r i
  told_next i k a h e = grind (arith, nat_tests)

  -- ---- what an answer says

  pub first_told : (k : ℕ) → 0 < length pts → Ok k ≡ first_answer pts u r → (askable u r ≡ true) × (first_in (amounts pts u r) ≡ Some k)
  first_told k h e =
      let some = some_first (amounts pts u r) (omega (arith, length-map pts (amount u r), h)) in
      (grind arith, grind (arith, some.1))

  pub next_told : (i : ℕ) (k : Option ℕ) → askable u r ≡ true → i < length pts → Ok k ≡ next_answer pts u r i → k ≡ next_in (amounts pts u r) i
  next_told i k a h e = grind (arith, nat_tests)

  pub next_never : (i : ℕ) (f : AlphabetFault) → askable u r ≡ true → i < length pts → Err f ≡ next_answer pts u r i → ⊥
  next_never i f a h e = grind (arith, nat_tests)

  -- ---- the amounts

  pub amounts_length : length (amounts pts u r) ≡ length pts
  amounts_length = length-map pts (amount u r)

  pub amounts_at : (i : ℕ) → i < length pts → get_or (amounts pts u r) i 0 ≡ amount u r (get_or pts i origin)
  amounts_at i h = get_or-map (amount u r) pts i origin 0 h

pub limit_256 : (sh : Shape) → size_limit sh ≤ 256
limit_256 whole = omega arith
limit_256 pair = omega arith

part_small : (u s : ℤ) (r : ℕ) → nat_abs u ≤ 1048576 → r ≤ 2047 → nat_abs s ≤ 15 → square (u -ℤ pos r *ℤ s) ≤ 1079281 * 1079281
part_small u s r h k l =
    square_reach (u -ℤ pos r *ℤ s) 1079281 (omega (arith, ints, product_le (pos r) s 2047 15 k l))

pub amount_small : (u : Gaussian) (r : ℕ) (s : Gaussian) → Asked u r → Within 15 s → amount u r s < 2 ^ 42
amount_small u r s a w =
    omega (arith, part_small u.re s.re r a.target.re a.gain w.re, part_small u.im s.im r a.target.im a.gain w.im)

-- a key can hold every amount and index
pub amounts_keyed : (sh : Shape) (pts : List Gaussian) (u : Gaussian) (r : ℕ) → Lawful sh pts → Asked u r → Keyed (amounts pts u r)
amounts_keyed sh pts u r l a =
    let e = amounts_length pts u r in
    record {
      few = omega (arith, e, l.few, limit_256 sh);
      small = λ i h. rw (amounts_at pts u r i (omega (arith, e, h))) (amount_small u r (get_or pts i origin) a (l.near i (omega (arith, e, h))));
    }

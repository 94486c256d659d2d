-- Targets, one entry after another.
use Rattle.std.proofs.Common.{◌≡◌, ℕ, zero, suc, ◌+◌, ◌*◌, ◌<◌, ◌≤◌, List, [], ◌∷◌, length, get_or, drop, ℤ, pos, ◌+ℤ◌, ◌-ℤ◌, sym, refl, ap, ◌∙◌, arith}
use Rattle.std.proofs.lemmas.List.{drop_more, drop_all}
use Rattle.std.proofs.lemmas.Int.{ints}
use Rattle.points.specs.Points.{Gaussian, gaussian, origin, plus, minus, times, Within, Shape, pair, parts}
use Rattle.points.proofs.Inside.{inside_within, within_inside, times_inside, minus_inside}
use Rattle.blocks.specs.declared.words.ChannelRow.{ChannelRow}
use Rattle.blocks.specs.Systems.{System, values}
use Rattle.blocks.specs.Blocks.{row_of}
use Rattle.codewords.specs.Codewords.{spelled}
use Rattle.codewords.specs.Distances.{dot}
use Rattle.codewords.specs.Targets.{target_of}

shift : (a b c : ℤ) → a -ℤ (b +ℤ c) ≡ (a -ℤ b) -ℤ c
shift a b c = omega (arith, ints)

less_nothing : (a : ℤ) → a -ℤ pos 0 ≡ a
less_nothing a = omega (arith, ints)

-- a sum is taken away one part after the other
minus_plus : (u p q : Gaussian) → minus u (plus p q) ≡ minus (minus u p) q
minus_plus u p q = λ i. gaussian (shift u.re p.re q.re i) (shift u.im p.im q.im i)

pub minus_origin : (u : Gaussian) → minus u origin ≡ u
minus_origin u = λ i. gaussian (less_nothing u.re i) (less_nothing u.im i)

pub length_values : (sh : Shape) (n i : ℕ) (ws : List ℤ) → length (values sh n i ws) ≡ n
length_values sh zero i ws = refl
length_values sh (suc n) i ws = ap suc (length_values sh n (i + parts sh) ws)

-- how far one entry and one point take a target
pub minus_near : (b c : ℕ) (u r s : Gaussian) → b + 61440 ≤ c → Within b u → Within 2048 r → Within 15 s → Within c (minus u (times r s))
minus_near b c u r s h near entry point =
    let reach = inside_within pair (b + 61440) (minus u (times r s)) (minus_inside pair b 61440 u (times r s) (within_inside b u near) (times_inside pair r s (within_inside 2048 r entry) (within_inside 15 s point))) in
    record { re = omega (arith, reach.re); im = omega (arith, reach.im) }

-- u is what the first k of the indices leave of the received value
pub record Left (b : System) (pts : List Gaussian) (l : ℕ) (is : List ℕ) (k : ℕ) (u : Gaussian) : Type 0 where
  pub rest : minus u (dot (drop k (drop 1 (get_or b.matrix l []))) (spelled pts (drop k is))) ≡ target_of b pts l is
  pub near : Within (32768 + 61440 * k) u

module _ {b : System} {pts : List Gaussian} {l : ℕ} {is : List ℕ} {k : ℕ} {u : Gaussian} (left : Left b pts l is k u) where
  -- one entry more, of a row with n values right of the diagonal
  pub one_entry : (sh : Shape) (n : ℕ) (row : ChannelRow) {r s v : Gaussian}
      → k < length is → k < n
      → row_of sh n row ≡ get_or b.matrix l [] → r ≡ get_or (row_of sh n row) (k + 1) origin → s ≡ get_or pts (get_or is k 0) origin
      → Within 2048 r → Within 15 s → v ≡ minus u (times r s)
      → Left b pts l is (k + 1) v
  one_entry sh n row {r} {s} {v} more right rows entry point near small step =
      let rs = values sh n 0 row.words in
      let ss = spelled pts (drop (k + 1) is) in
      let there : k < length rs = omega (arith, right, length_values sh n 0 row.words) in
      let next : k + 1 ≡ suc k = omega arith in
      let is_entry : r ≡ get_or rs k origin = rw next at entry in
      let turn : minus v (dot (drop (k + 1) rs) ss) ≡ minus u (dot (drop k rs) (spelled pts (drop k is))) =
      rw (step, drop_more rs k origin there, drop_more is k 0 more, ← is_entry, ← point) (sym (minus_plus u (times r s) (dot (drop (k + 1) rs) ss))) in
      record {
        rest = rw (← rows) (turn ∙ (rw (← rows) at left.rest));
        near = rw step (minus_near (32768 + 61440 * k) (32768 + 61440 * (k + 1)) u r s (omega arith) left.near near small);
      }

  pub no_entry : length is ≤ k → u ≡ target_of b pts l is
  no_entry h = sym (minus_origin u) ∙ sym (nothing (drop k (drop 1 (get_or b.matrix l [])))) ∙ rw (drop_all k is h) at left.rest
    where
      nothing : (rs : List Gaussian) → minus u (dot rs []) ≡ minus u origin
      nothing [] = refl
      nothing (r ∷ rs) = refl

-- A load that passes every check answers the system of its rounded words.
use Rattle.std.proofs.Common.{◌≡◌, ℕ, ◌*◌, ◌≤◌, List, map, length, take, slice_range, ℤ, Some, None, Ok, Err, Option, refl, ap, arith}
use Rattle.std.proofs.lemmas.Bool.{le-ltb, eq-eqb}
use Rattle.std.proofs.lemmas.Bool.Decides.{nat_tests}
use Rattle.points.specs.Points.{Gaussian, Shape, whole, pair, levels, parts}
use Rattle.blocks.specs.Rounding.{rounded, bits_answer}
use Rattle.blocks.specs.Words.{first_outside}
use Rattle.blocks.specs.Systems.{rows, values}
use Rattle.faults.specs.Refusals.{answer}
use Rattle.blocks.specs.Refusals.{channel_word_count, channel_fault, load_answer}
use Rattle.blocks.proofs.Rows.{values_range}

-- what an answer says of the fault
module _ {F X : Type 0} where
  pub answered : (o : Option F) (x y : X) → Ok y ≡ answer o x → (o ≡ None) × (y ≡ x)
  answered None x y e = (refl, cc)
  answered (Some f) x y e = cc

  pub refused : (o : Option F) (x : X) (f : F) → Err f ≡ answer o x → o ≡ Some f
  refused None x f e = cc
  refused (Some g) x f e = cc

-- a received word for each part
all_received : (sh : Shape) → parts sh * levels sh ≡ 8
all_received whole = refl
all_received pair = refl

module _ (sh : Shape) (e : ℕ) (cs zs : List ℤ) where
  pub loaded : (m : List (List Gaussian)) (read : List ℤ) → e ≤ 8 → length cs ≡ channel_word_count sh → length zs ≡ 8
      → Ok m ≡ answer (channel_fault sh (levels sh) 0 (map (rounded e) cs)) (rows sh (levels sh) 0 (map (rounded e) cs))
      → Ok (take 8 read) ≡ answer (first_outside 32768 8 0 (map (rounded e) zs)) (slice_range (map (rounded e) zs) 0 8)
      → Ok (record { matrix = m; received = values sh (levels sh) 0 read }) ≡ load_answer sh e cs zs
  loaded m read few channel received passes got =
      let ws = map (rounded e) zs in
      let p = answered (channel_fault sh (levels sh) 0 (map (rounded e) cs)) (rows sh (levels sh) 0 (map (rounded e) cs)) m passes in
      let q = answered (first_outside 32768 8 0 ws) (slice_range ws 0 8) (take 8 read) got in
      let same = values_range sh (levels sh) 0 read ws (rw (all_received sh) q.1) in
      let made : record { matrix = m; received = values sh (levels sh) 0 read } ≡ record { matrix = rows sh (levels sh) 0 (map (rounded e) cs); received = values sh (levels sh) 0 ws } = λ i. record { matrix = p.1 i; received = same i } in
      rw (le-ltb 8 e few, eq-eqb (length cs) (channel_word_count sh) channel, eq-eqb (length zs) 8 received, p.0, q.0) (ap Ok made)

pub bits_are : (e n : ℕ) → Ok n ≡ bits_answer e → n ≡ e
bits_are e n h = grind (arith, nat_tests)

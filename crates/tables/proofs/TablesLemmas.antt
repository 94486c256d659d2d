-- The points of a table, and its answers.
use Rattle.std.specs.Prelude.{◌≡◌, ℕ, ◌+◌, ◌<◌, ◌≤◌, true, List, map, length, Ok, Err}
use Rattle.std.proofs.lemmas.List.{length-map}
use Rattle.faults.specs.declared.alphabet.AlphabetFault.TheVariants.{Index}
use Rattle.std.proofs.Common.{refl, sym, ap, ◌∙◌, arith}
use Rattle.std.proofs.lemmas.Bool.Decides.{nat_tests}
use Rattle.std.specs.Option.{unwrap_or}
use Rattle.points.specs.Points.{Gaussian, Shape, amount}
use Rattle.ranks.specs.Keys.{key, index_of, Least}
use Rattle.ranks.proofs.Keys.{Keyed, least_first, least_next}
use Rattle.alphabets.specs.Alphabets.{Lawful, point_answer}
use Rattle.alphabets.specs.Questions.{askable, amounts, first_answer, next_answer}
use Rattle.alphabets.proofs.Asked.{told_point}
use Rattle.tables.specs.Tables.{passes, table_points}
use Rattle.tables.specs.Lists.{keeps_points}
use Rattle.alphabets.proofs.Ranked.{asked, told_next, amounts_length, amounts_at, amounts_keyed}

-- ---- a list ps that passed, as the table's list hs lends it

module _ {K : Type 0} (sh : Shape) (m : K → Gaussian) (ps hs : List K) (list : ps ≡ hs) (kept : passes sh (map m ps) ≡ true) where
  pub held : table_points sh (map m hs) ≡ map m ps
  held = rw (← list) (keeps_points sh (map m ps) kept)

  pub table_size : length ps ≡ length (table_points sh (map m hs))
  table_size = sym (rw held (length-map ps m))

  pub table_past : (u : Gaussian) (r i : ℕ) → askable u r ≡ true → length ps ≤ i → Err Index ≡ next_answer (table_points sh (map m hs)) u r i
  table_past u r i ask h = let past : length (map m ps) ≤ i = omega (arith, length-map ps m) in rw held (grind (arith, nat_tests))

-- ---- what a table with the points pts answers to a question, by the least key of all n of them

module _ {sh : Shape} {pts : List Gaussian} (l : Lawful sh pts) (u : Gaussian) (r : ℕ) (ask : askable u r ≡ true) where
  keyed : Keyed (amounts pts u r)
  keyed = amounts_keyed sh pts u r l (asked u r ask)

  module _ {n k : ℕ} (all : n ≡ length pts) where
    pub table_first : Least (amounts pts u r) 0 n k → Ok (unwrap_or (index_of k) 0) ≡ first_answer pts u r
    table_first least =
        let some = l.some in
        rw (ask, ← least_first (amounts pts u r) keyed n k (all ∙ sym (amounts_length pts u r)) (omega arith) least) refl

    -- s is the point asked about
    pub table_next : (i : ℕ) (s : Gaussian) → Ok s ≡ point_answer pts i → Least (amounts pts u r) (key (amount u r s) i + 1) n k → Ok (index_of k) ≡ next_answer pts u r i
    table_next i s told least =
        let within : i < length pts = grind (arith, nat_tests) in
        let here = amounts_at pts u r i within ∙ ap (amount u r) (sym (told_point pts i s told)) in
        told_next pts u r i (index_of k) ask within (sym (least_next (amounts pts u r) keyed n i k (all ∙ sym (amounts_length pts u r)) (omega arith) (rw (← here) at least)))

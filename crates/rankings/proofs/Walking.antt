-- Who begins at the first and asks for the next has the whole ranking.
use Rattle.std.proofs.Common.{◌≡◌, ℕ, ◌-◌, ◌<◌, true, List, [], ◌∷◌, ◌++◌, length, get_or, take, Some, None, Ok, Err, Option, sym, ap, refl, ◌∙◌, arith}
use Rattle.std.proofs.lemmas.List.{take_all, take_more, length_push}
use Rattle.faults.specs.declared.alphabet.AlphabetFault.{AlphabetFault}
use Rattle.faults.specs.Refusals.{answer}
use Rattle.points.specs.Points.{Gaussian, Shape}
use Rattle.ranks.specs.Ranks.{ranking, place}
use Rattle.ranks.proofs.Sorting.{place_within, place_past}
use Rattle.ranks.proofs.Ranks.{walks, placed_in, ranking_length}
use Rattle.alphabets.specs.Alphabets.{Lawful}
use Rattle.alphabets.specs.Questions.{askable, rank_fault, amounts, first_answer, next_answer}
use Rattle.alphabets.proofs.Ranked.{amounts_length, limit_256, first_told, next_told, next_never}

-- ks is the front of the ranking, and next is what stands behind it
pub record Front (pts : List Gaussian) (u : Gaussian) (r : ℕ) (ks : List ℕ) (next : Option ℕ) : Type 0 where
  pub asked : askable u r ≡ true
  pub so_far : ks ≡ take (length ks) (ranking (amounts pts u r))
  pub after : next ≡ place (ranking (amounts pts u r)) (length ks)

module _ {sh : Shape} {pts : List Gaussian} {u : Gaussian} {r : ℕ} (l : Lawful sh pts) where
  pub begins : {k : ℕ} → Ok k ≡ first_answer pts u r → Front pts u r [] (Some k)
  begins {k} e = let t = first_told pts u r k l.some e in record { asked = t.0; so_far = refl; after = sym t.1 }

  module _ {ks : List ℕ} {next : Option ℕ} {i : ℕ} (f : Front pts u r ks next) (found : next ≡ Some i) where
    stands : place (ranking (amounts pts u r)) (length ks) ≡ Some i
    stands = sym f.after ∙ found

    here : (length ks < length (ranking (amounts pts u r))) × (get_or (ranking (amounts pts u r)) (length ks) 0 ≡ i)
    here = place_within (ranking (amounts pts u r)) (length ks) i stands

    below : length ks < length pts
    below = omega (arith, here.0, ranking_length (amounts pts u r), amounts_length pts u r)

    pub index_in : i < length pts
    index_in = omega (arith, placed_in (amounts pts u r) (length ks) i stands, amounts_length pts u r)

    pub room : length ks < 256
    room = omega (arith, below, l.few, limit_256 sh)

    pub shorter : (new : List ℕ) → new ≡ ks ++ i ∷ [] → length pts - length new < length pts - length ks
    shorter new e = rw (e, length_push ks i) (omega (arith, below))

    pub never : (fault : AlphabetFault) → Err fault ≡ next_answer pts u r i → ⊥
    never fault e = next_never pts u r i fault f.asked index_in e

    pub one_more : (new : List ℕ) (k : Option ℕ) → new ≡ ks ++ i ∷ [] → Ok k ≡ next_answer pts u r i → Front pts u r new k
    one_more new k e told =
        let rk = ranking (amounts pts u r) in
        rw e (record {
          asked = f.asked;
          so_far = rw length_push (cc (f.so_far, here.1, take_more rk (length ks) 0 here.0));
          after = rw length_push (next_told pts u r i k f.asked index_in told ∙ walks (amounts pts u r) (length ks) i stands);
        })

-- the whole answer
pub at_end : {pts : List Gaussian} {u : Gaussian} {r : ℕ} {ks : List ℕ} {next : Option ℕ} → Front pts u r ks next → next ≡ None → Ok ks ≡ answer (rank_fault u r) (ranking (amounts pts u r))
at_end {pts} {u} {r} {ks} f none =
    let rk = ranking (amounts pts u r) in
    rw f.asked (ap Ok (f.so_far ∙ take_all (length ks) rk (place_past rk (length ks) (sym f.after ∙ none))))

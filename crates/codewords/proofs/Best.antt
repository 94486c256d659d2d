-- The nearest of all codewords, number by number.
use Rattle.std.proofs.Common.{◌≡◌, ℕ, ◌+◌, ◌^◌, ◌<◌, ◌≤◌, List, length, sym, ap, ◌∙◌, inl, inr, ⊎_elim, arith, below_more}
use Rattle.std.proofs.Math.Nat.{eq-or-lt_of_le}
use Rattle.std.proofs.lemmas.Bool.{cases_order}
use Rattle.points.specs.Points.{Gaussian}
use Rattle.blocks.specs.Systems.{System}
use Rattle.codewords.specs.Distances.{distance_of}
use Rattle.codewords.specs.Nearest.{Nearest}
use Rattle.codewords.specs.Numbers.{numbered}
use Rattle.codewords.proofs.Numbering.{number_of, number_below, numbered_number, numbered_codeword, numbered_earlier}

-- of the codewords numbered below k, w is the nearest, the earlier one among equals, and d is its distance
pub record Best (b : System) (pts : List Gaussian) (n k : ℕ) (w : List ℕ) (d : ℕ) : Type 0 where
  pub number : ℕ
  pub here : number < k
  pub codeword : w ≡ numbered (length pts) n number
  pub value : d ≡ distance_of b pts w
  pub bound : d < 2 ^ 40
  pub least : (y : ℕ) → y < k → (d ≤ distance_of b pts (numbered (length pts) n y)) × (y < number → d < distance_of b pts (numbered (length pts) n y))

module _ {b : System} {pts : List Gaussian} {n k : ℕ} {w : List ℕ} {d : ℕ} (best : Best b pts n k w d) where
  -- after the codeword number k, which is v
  module _ {v : List ℕ} {e : ℕ} (codeword : v ≡ numbered (length pts) n k) (value : e ≡ distance_of b pts v) where
    far : e ≡ distance_of b pts (numbered (length pts) n k)
    far = value ∙ ap (distance_of b pts) codeword

    pub best_stays : d ≤ e → Best b pts n (k + 1) w d
    best_stays h = record {
      number = best.number;
      here = omega (arith, best.here);
      codeword = best.codeword;
      value = best.value;
      bound = best.bound;
      least = below_more _ _ best.least (omega (arith, far), λ l. absurd (omega (arith, l, best.here)));
    }

    pub best_moves : e < 2 ^ 40 → e < d → Best b pts n (k + 1) v e
    best_moves bound h = record {
      number = k;
      here = omega arith;
      codeword = codeword;
      value = value;
      bound = bound;
      least = below_more _ _ (λ y l. let q = best.least y l in (omega arith, λ _. omega arith)) (omega (arith, far), λ l. absurd (omega (arith, l)));
    }

  pub best_nearest : 0 < length pts → length pts ^ n ≤ k → Nearest b pts n w d
  best_nearest some all = record {
    reached = record { codeword = rw best.codeword (numbered_codeword (length pts) n best.number some); value = best.value; bound = best.bound };
    ahead = λ v h other.
        let m = length pts in
        let y = number_of m v in
        let below = number_below m n v h in
        let is = numbered_number m n v h in
        let q = rw is at (best.least y (omega (arith, below))) in
        ⊎_elim
        (λ e. absurd (other (sym is ∙ ap (numbered m n) (sym e) ∙ sym best.codeword)))
        (⊎_elim
        (λ less. ⊎_elim (λ same. inr (same, rw (best.codeword, ← is) (numbered_earlier m n best.number y some less below))) inl (eq-or-lt_of_le q.0))
        (λ more. inl (q.1 more)))
        (cases_order best.number y);
  }

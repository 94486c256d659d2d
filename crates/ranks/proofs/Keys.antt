-- Who keeps the least key of those not below a floor ends at the index that the ranking says.
use Rattle.std.proofs.Common.{◌≡◌, ℕ, ◌+◌, ◌^◌, ◌<◌, ◌≤◌, true, false, ◌⊎◌, List, length, get_or, Some, sym, ap, ◌∙◌, inl, inr, ⊎_elim, arith, below_more}
use Rattle.std.proofs.lemmas.Nat.{mod-mul-add}
use Rattle.std.proofs.lemmas.Bool.{cases_lt}
use Rattle.std.proofs.lemmas.Bool.Decides.{nat_tests}
use Rattle.ranks.specs.Ranks.{before, first_in, next_in}
use Rattle.ranks.specs.Keys.{no_key, lesser, index_of, KeyIndex, key_at, Least}
use Rattle.ranks.proofs.Ranks.{first_is, next_is, last_is}

-- amounts and indices that a key can hold
pub record Keyed (ws : List ℕ) : Type 0 where
  pub few : length ws ≤ 256
  pub small : (i : ℕ) → i < length ws → get_or ws i 0 < 2 ^ 42

-- the lesser of two keys is one of them
cases_lesser : (floor k l : ℕ) → ((lesser floor k l ≡ k) × (floor ≤ k) × (k < l)) ⊎ ((lesser floor k l ≡ l) × (floor ≤ k → l ≤ k))
cases_lesser floor k l = grind (arith, nat_tests, cases_lt k floor)

-- one index more
pub least_more : (ws : List ℕ) (floor n l k : ℕ) → k ≡ key_at ws n → Least ws floor n l → Least ws floor (n + 1) (lesser floor k l)
least_more ws floor n l k e h =
    ⊎_elim
    (λ t. rw t.0 (record { least = below_more _ _ (λ j b f. omega (arith, h.least j b f, t.2)) (λ f. omega arith); reached = inr (n, omega arith, omega (arith, e, t.1), e) }))
    (λ t. rw t.0 (record {
      least = below_more _ _ h.least (λ f. omega (arith, t.1 (omega (arith, e, f)), e));
      reached = ⊎_elim inl (λ p. inr (p.0, omega (arith, p.1), p.2, p.3)) h.reached;
    }))
    (cases_lesser floor k l)

pub key_index : KeyIndex
key_index a i p q = grind (arith, nat_tests, mod-mul-add a 256 i q)

-- keys and rank say the same
before_key : (ws : List ℕ) (i j : ℕ) → Keyed ws → i < length ws → j < length ws → ((before ws i j ≡ true) × (key_at ws i < key_at ws j)) ⊎ ((before ws i j ≡ false) × (key_at ws j ≤ key_at ws i))
before_key ws i j k p q = let few = k.few in grind (arith, nat_tests)

module _ (ws : List ℕ) (k : Keyed ws) where
  reads : (i : ℕ) → i < length ws → index_of (key_at ws i) ≡ Some i
  reads i h = key_index (get_or ws i 0) i (k.small i h) (omega (arith, k.few))

  bounded : (i : ℕ) → i < length ws → key_at ws i < no_key
  bounded i h = omega (arith, k.small i h, k.few)

  pub least_first : (n l : ℕ) → n ≡ length ws → 0 < n → Least ws 0 n l → index_of l ≡ first_in ws
  least_first n l e some h =
      ⊎_elim
      (λ none. absurd (omega (arith, none, h.least 0 some (omega arith), bounded 0 (omega arith))))
      (λ p. ap index_of p.3 ∙ reads p.0 (omega (arith, p.1)) ∙ sym (first_is ws p.0 (record {
        here = omega (arith, p.1);
        least = λ j b. grind (arith, p.3, h.least j (omega arith) (omega arith), before_key ws j p.0 k b (omega (arith, p.1)));
      })))
      h.reached

  pub least_next : (n i l : ℕ) → n ≡ length ws → i < n → Least ws (key_at ws i + 1) n l → index_of l ≡ next_in ws i
  least_next n i l e within h =
      ⊎_elim
      (λ none. ap index_of none ∙ sym (last_is ws i (omega arith) (λ j b. grind (arith, none, h.least j (omega arith), bounded j b, before_key ws i j k (omega arith) b))))
      (λ p. ap index_of p.3 ∙ reads p.0 (omega (arith, p.1)) ∙ sym (next_is ws i p.0 (omega arith) (record {
        here = omega (arith, p.1);
        later = grind (arith, p.2, before_key ws i p.0 k (omega arith) (omega (arith, p.1)));
        least = λ j b t. grind (arith, p.3, h.least j (omega arith), before_key ws i j k (omega arith) b, before_key ws j p.0 k b (omega (arith, p.1)));
      })))
      h.reached

-- What a ranking is, and which index is first in it or follows another, by the amounts alone.
use Rattle.std.proofs.Common.{◌≡◌, ℕ, ◌+◌, ◌<◌, true, false, List, [], ◌∷◌, length, Some, None, refl, ◌∙◌, add-one, arith}
use Rattle.std.proofs.lemmas.List.FromFn.{length-range_with_len}
use Rattle.std.proofs.lemmas.Bool.Decides.{nat_tests}
use Rattle.std.specs.List.{range_with_len}
use Rattle.ranks.specs.Ranks.{before, ranking, place, first_in, next_in, EachOnce, Ascends}
use Rattle.ranks.proofs.Sorting.{Strict, Ordered, In, in_sorted, sorted_in, count_sorted, length_sorted, ordered_sorted, ascending, walked, place_in, first_found, first_least, next_found, last_found}

pub before_strict : (ws : List ℕ) → Strict (before ws)
before_strict ws = record {
  never = λ x. grind (arith, nat_tests);
  chain = λ x y z p q. grind (arith, nat_tests);
  total = λ x y p. grind (arith, nat_tests);
}

pub each_once : EachOnce
unfolding ranking
each_once ws i = count_sorted (before ws) i (length ws) 0 (length ws) (omega arith) (omega arith)

ranked : (ws : List ℕ) → Ordered (before ws) (ranking ws)
unfolding ranking
ranked ws = ordered_sorted (before_strict ws) (length ws) 0

pub ascends : Ascends
ascends ws = ascending (before_strict ws) (ranking ws) (ranked ws)

pub walks : (ws : List ℕ) (k i : ℕ) → place (ranking ws) k ≡ Some i → next_in ws i ≡ place (ranking ws) (k + 1)
walks ws k i e = rw add-one (walked (before_strict ws) (ranking ws) (ranked ws) k i e)

pub ranking_length : (ws : List ℕ) → length (ranking ws) ≡ length ws
unfolding ranking
ranking_length ws = length_sorted (before ws) (range_with_len 0 (length ws)) ∙ length-range_with_len 0 (length ws)

-- ---- by the amounts alone

pub record IsFirst (ws : List ℕ) (k : ℕ) : Type 0 where
  pub here : k < length ws
  pub least : (j : ℕ) → j < length ws → before ws j k ≡ false

pub record IsNext (ws : List ℕ) (i k : ℕ) : Type 0 where
  pub here : k < length ws
  pub later : before ws i k ≡ true
  pub least : (j : ℕ) → j < length ws → before ws i j ≡ true → before ws j k ≡ false

abbrev pub IsLast : List ℕ → ℕ → Type 0
IsLast ws i = (j : ℕ) → j < length ws → before ws i j ≡ false

module _ (ws : List ℕ) where
  ranked_in : (x : ℕ) → In x (ranking ws) → x < length ws
  unfolding ranking
  ranked_in x m = let b = in_sorted (before ws) (length ws) 0 x m in omega arith

  pub placed_in : (k x : ℕ) → place (ranking ws) k ≡ Some x → x < length ws
  placed_in k x e = ranked_in x (place_in (ranking ws) k x e)

  in_ranked : (x : ℕ) → x < length ws → In x (ranking ws)
  unfolding ranking
  in_ranked x h = sorted_in (before ws) (length ws) 0 x (omega arith) (omega arith)

  pub first_is : (k : ℕ) → IsFirst ws k → first_in ws ≡ Some k
  first_is k h = first_found (before_strict ws) (ranking ws) (ranked ws) k (in_ranked k h.here) (λ j m. h.least j (ranked_in j m))

  pub next_is : (i k : ℕ) → i < length ws → IsNext ws i k → next_in ws i ≡ Some k
  next_is i k l h = next_found (before_strict ws) (ranking ws) (ranked ws) i k (in_ranked i l) (in_ranked k h.here) h.later (λ j m. h.least j (ranked_in j m))

  pub last_is : (i : ℕ) → i < length ws → IsLast ws i → next_in ws i ≡ None
  last_is i l h = last_found (before_strict ws) (ranking ws) (ranked ws) i (in_ranked i l) (λ j m. h j (ranked_in j m))

  has_first : (l : List ℕ) → In 0 l → (k : ℕ) × (place l 0 ≡ Some k)
  has_first [] m = absurd m
  has_first (x ∷ xs) m = (x, refl)

  -- what the ranking has in front is first
  pub is_first : (k : ℕ) → first_in ws ≡ Some k → IsFirst ws k
  is_first k e = record {
    here = ranked_in k (place_in (ranking ws) 0 k e);
    least = λ j h. first_least (before_strict ws) (ranking ws) (ranked ws) k e j (in_ranked j h);
  }

  pub some_first : 0 < length ws → (k : ℕ) × (first_in ws ≡ Some k)
  some_first h = has_first (ranking ws) (in_ranked 0 h)

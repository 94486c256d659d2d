-- Words read one after another, each within its limit.
use Rattle.std.proofs.Common.{◌≡◌, ℕ, zero, suc, ◌+◌, ◌-◌, ◌<◌, ◌≤◌, true, false, leb, List, [], ◌∷◌, ◌++◌, length, get_or, take, drop, set, ℤ, pos, negsuc, nat_abs, Some, sym, refl, ap₂, ◌∙◌, arith}
use Rattle.std.proofs.lemmas.List.{length-drop, get_or-drop, take_more, take_more_set}
use Rattle.std.proofs.lemmas.Bool.{and_parts, and_from, le-leb, leb-true}
use Rattle.std.proofs.lemmas.Bool.Decides.{nat_tests}
use Rattle.blocks.specs.Words.{outside, first_outside, all_within}

pub inside_near : (b : ℕ) (w : ℤ) → outside b w ≡ false → nat_abs w ≤ b
inside_near zero (pos n) h = grind (arith, nat_tests)
inside_near (suc b) (pos n) h = grind (arith, nat_tests)
inside_near zero (negsuc n) h = grind (arith, nat_tests)
inside_near (suc b) (negsuc n) h = grind (arith, nat_tests)

pub within_set : (b : ℕ) (ws : List ℤ) (i : ℕ) (w : ℤ) → nat_abs w ≤ b → all_within b ws ≡ true → all_within b (set ws i w) ≡ true
within_set b [] i w h t = refl
within_set b (x ∷ xs) zero w h t = and_from _ _ (le-leb (nat_abs w) b h) (and_parts (leb (nat_abs x) b) (all_within b xs) t).1
within_set b (x ∷ xs) (suc i) w h t =
    let p = and_parts (leb (nat_abs x) b) (all_within b xs) t in
    and_from _ _ p.0 (within_set b xs i w h p.1)

pub within_at : (b : ℕ) (ws : List ℤ) (i : ℕ) → all_within b ws ≡ true → nat_abs (get_or ws i (pos 0)) ≤ b
within_at b [] i t = omega arith
within_at b (x ∷ xs) zero t = leb-true (nat_abs x) b (and_parts (leb (nat_abs x) b) (all_within b xs) t).0
within_at b (x ∷ xs) (suc i) t = within_at b xs i (and_parts (leb (nat_abs x) b) (all_within b xs) t).1

-- one turn of the reading of n words from place i on: k are read, and the word at i + k is w
module _ (b n i k : ℕ) (ws : List ℤ) (w : ℤ) (more : k < n) (fresh : w ≡ get_or ws (i + k) (pos 0)) where
  here : n - k ≡ suc (n - (k + 1))
  here = omega arith

  next : i + k + 1 ≡ i + (k + 1)
  next = omega arith

  pub turn_refuses : outside b w ≡ true → first_outside b n i ws ≡ first_outside b (n - k) (i + k) ws → first_outside b n i ws ≡ Some (i + k)
  turn_refuses t before = before ∙ rw (here, ← fresh, t) refl

  pub turn_goes_on : outside b w ≡ false → first_outside b n i ws ≡ first_outside b (n - k) (i + k) ws → first_outside b n i ws ≡ first_outside b (n - (k + 1)) (i + (k + 1)) ws
  turn_goes_on t before = before ∙ rw (here, ← fresh, t, next) refl

  pub turn_keeps : (read : List ℤ) → k < length read → i + k < length ws → take k read ≡ take k (drop i ws) → take (k + 1) (set read k w) ≡ take (k + 1) (drop i ws)
  turn_keeps read room there kept =
      let left : k < length (drop i ws) = simp length-drop (omega arith) in
      take_more_set read k w room ∙ ap₂ (λ xs x. xs ++ x ∷ []) kept (fresh ∙ sym (get_or-drop i ws k (pos 0))) ∙ sym (take_more (drop i ws) k (pos 0) left)

-- Sorting by insertion under a strict order: what the list holds, that it is ordered, and what stands at its front and behind an element.
use Rattle.std.proofs.Common.{◌≡◌, ℕ, zero, suc, ◌+◌, ◌<◌, ◌≤◌, Bool, true, false, cond, eqb, ltb, ◌⊎◌, List, [], ◌∷◌, length, get_or, Some, None, sym, refl, ap, ◌∙◌, inl, inr, suc-le-suc, arith}
use Rattle.std.proofs.lemmas.Bool.{eq-eqb, le-ltb}
use Rattle.std.proofs.lemmas.Bool.Decides.{nat_tests}
use Rattle.std.specs.List.{range_with_len}
use Rattle.ranks.specs.Ranks.{inserted, sorted, place, behind, occurrences}

pub record Strict (lt : ℕ → ℕ → Bool) : Type 0 where
  pub never : (x : ℕ) → lt x x ≡ false
  pub chain : (x y z : ℕ) → lt x y ≡ true → lt y z ≡ true → lt x z ≡ true
  pub total : (x y : ℕ) → lt x y ≡ false → (x ≡ y) ⊎ (lt y x ≡ true)

abbrev pub In : ℕ → List ℕ → Type 0
In x [] = ⊥
In x (y ∷ ys) = (x ≡ y) ⊎ In x ys

abbrev pub Ordered : (ℕ → ℕ → Bool) → List ℕ → Type 0
Ordered lt [] = Unit {0}
Ordered lt (x ∷ xs) = ((y : ℕ) → In y xs → lt x y ≡ true) × Ordered lt xs

-- ---- what the sorted list holds

in_inserted : (lt : ℕ → ℕ → Bool) (k : ℕ) (l : List ℕ) (x : ℕ) → In x (inserted lt k l) → (x ≡ k) ⊎ In x l
in_inserted lt k [] x h = h
in_inserted lt k (j ∷ js) x h = let ih = in_inserted lt k js x in grind arith

inserted_in : (lt : ℕ → ℕ → Bool) (k : ℕ) (l : List ℕ) (x : ℕ) → (x ≡ k) ⊎ In x l → In x (inserted lt k l)
inserted_in lt k [] x h = h
inserted_in lt k (j ∷ js) x h = let ih = inserted_in lt k js x in grind arith

pub in_sorted : (lt : ℕ → ℕ → Bool) (n a x : ℕ) → In x (sorted lt (range_with_len a n)) → (a ≤ x) × (x < a + n)
in_sorted lt zero a x h = absurd h
in_sorted lt (suc n) a x h = grind (arith, in_sorted lt n (a + 1) x, in_inserted lt a (sorted lt (range_with_len (a + 1) n)) x h)

pub sorted_in : (lt : ℕ → ℕ → Bool) (n a x : ℕ) → a ≤ x → x < a + n → In x (sorted lt (range_with_len a n))
sorted_in lt zero a x h k = absurd (omega arith)
sorted_in lt (suc n) a x h k =
    let rest = sorted_in lt n (a + 1) x in inserted_in lt a (sorted lt (range_with_len (a + 1) n)) x (grind arith)

count_inserted : (lt : ℕ → ℕ → Bool) (i k : ℕ) (l : List ℕ) → occurrences i (inserted lt k l) ≡ cond (eqb k i) 1 0 + occurrences i l
count_inserted lt i k [] = refl
count_inserted lt i k (j ∷ js) = grind (arith, count_inserted lt i k js)

none_below : (lt : ℕ → ℕ → Bool) (i n a : ℕ) → i < a → occurrences i (sorted lt (range_with_len a n)) ≡ 0
none_below lt i zero a h = refl
none_below lt i (suc n) a h =
    let rest = none_below lt i n (a + 1) (omega arith) in
    count_inserted lt i a (sorted lt (range_with_len (a + 1) n)) ∙ grind (arith, nat_tests)

pub count_sorted : (lt : ℕ → ℕ → Bool) (i n a m : ℕ) → a ≤ i → a + n ≡ m → occurrences i (sorted lt (range_with_len a n)) ≡ cond (ltb i m) 1 0
count_sorted lt i zero a m h e = rw (le-ltb i m (omega arith)) refl
count_sorted lt i (suc n) a m h e =
    count_inserted lt i a (sorted lt (range_with_len (a + 1) n)) ∙ grind (arith, nat_tests, none_below lt i n (a + 1), count_sorted lt i n (a + 1) m)

length_inserted : (lt : ℕ → ℕ → Bool) (k : ℕ) (l : List ℕ) → length (inserted lt k l) ≡ suc (length l)
length_inserted lt k [] = refl
length_inserted lt k (j ∷ js) = grind (arith, length_inserted lt k js)

pub length_sorted : (lt : ℕ → ℕ → Bool) (l : List ℕ) → length (sorted lt l) ≡ length l
length_sorted lt [] = refl
length_sorted lt (k ∷ ks) = length_inserted lt k (sorted lt ks) ∙ ap suc (length_sorted lt ks)

-- ---- places of a list

pub place_within : (l : List ℕ) (k x : ℕ) → place l k ≡ Some x → (k < length l) × (get_or l k 0 ≡ x)
place_within [] k x e = absurd (cc)
place_within (y ∷ ys) zero x e = (omega arith, cc)
place_within (y ∷ ys) (suc k) x e = let p = place_within ys k x e in (suc-le-suc p.0, p.1)

pub place_past : (l : List ℕ) (k : ℕ) → place l k ≡ None → length l ≤ k
place_past [] k e = omega arith
place_past (y ∷ ys) zero e = absurd (cc)
place_past (y ∷ ys) (suc k) e = suc-le-suc (place_past ys k e)

pub place_in : (l : List ℕ) (k x : ℕ) → place l k ≡ Some x → In x l
place_in [] k x e = absurd (cc)
place_in (y ∷ ys) zero x e = inl (cc)
place_in (y ∷ ys) (suc k) x e = inr (place_in ys k x e)

-- ---- that it is ordered

module _ {lt : ℕ → ℕ → Bool} (o : Strict lt) where
  ordered_inserted : (k : ℕ) (l : List ℕ) → (In k l → ⊥) → Ordered lt l → Ordered lt (inserted lt k l)
  ordered_inserted k [] apart h = (λ y m. absurd m, tt)
  ordered_inserted k (j ∷ js) apart h = split (lt k j) refl (ordered_inserted k js (λ m. apart (inr m)) h.1)
    where
      split : (b : Bool) → lt k j ≡ b → Ordered lt (inserted lt k js) → Ordered lt (cond b (k ∷ j ∷ js) (j ∷ inserted lt k js))
      split true e ih = (λ y m. grind (arith, o.chain k j y e, h.0 y), h)
      split false e ih = (λ y m. grind (arith, in_inserted lt k js y m, h.0 y, o.total k j e, apart), ih)

  pub ordered_sorted : (n a : ℕ) → Ordered lt (sorted lt (range_with_len a n))
  ordered_sorted zero a = tt
  ordered_sorted (suc n) a = ordered_inserted a (sorted lt (range_with_len (a + 1) n)) (λ m. let b = in_sorted lt n (a + 1) a m in omega arith) (ordered_sorted n (a + 1))

  -- ---- places of an ordered list

  pub ascending : (l : List ℕ) → Ordered lt l → (a b i j : ℕ) → a < b → place l a ≡ Some i → place l b ≡ Some j → lt i j ≡ true
  ascending [] s a b i j h p q = absurd (place_in [] a i p)
  ascending (x ∷ xs) s a zero i j h p q = absurd (omega arith)
  ascending (x ∷ xs) s zero (suc b) i j h p q = let later = s.0 j (place_in xs b j q) in grind arith
  ascending (x ∷ xs) s (suc a) (suc b) i j h p q = ascending xs s.1 a b i j (omega arith) p q

  -- x is not i where x stands before i
  apart : (x i : ℕ) → lt x i ≡ true → eqb x i ≡ false
  apart x i t = let never = o.never x in grind (arith, nat_tests)

  not_back : (x y : ℕ) → lt x y ≡ true → lt y x ≡ false
  not_back x y t = let never = o.never x in let chain = o.chain x y x t in grind arith

  pub walked : (l : List ℕ) → Ordered lt l → (k i : ℕ) → place l k ≡ Some i → behind i l ≡ place l (suc k)
  walked [] s k i e = absurd (place_in [] k i e)
  walked (x ∷ xs) s zero i e = grind (arith, nat_tests)
  walked (x ∷ xs) s (suc k) i e = rw (apart x i (s.0 i (place_in xs k i e))) (walked xs s.1 k i e)

  -- ---- the front, and what stands behind an element, by the order alone

  pub first_found : (l : List ℕ) → Ordered lt l → (k : ℕ) → In k l → ((j : ℕ) → In j l → lt j k ≡ false) → place l 0 ≡ Some k
  first_found [] s k m h = absurd m
  first_found (x ∷ xs) s k (inl e) h = ap Some (sym e)
  first_found (x ∷ xs) s k (inr m) h = let earlier = h x (inl refl) in let later = s.0 k m in grind arith

  pub first_least : (l : List ℕ) → Ordered lt l → (k : ℕ) → place l 0 ≡ Some k → (j : ℕ) → In j l → lt j k ≡ false
  first_least [] s k e j m = absurd m
  first_least (x ∷ xs) s k e j m =
      let never = o.never x in let back = λ (n : In j xs). not_back x j (s.0 j n) in grind arith

  pub next_found : (l : List ℕ) → Ordered lt l → (i k : ℕ) → In i l → In k l → lt i k ≡ true → ((j : ℕ) → In j l → lt i j ≡ true → lt j k ≡ false) → behind i l ≡ Some k
  next_found [] s i k mi mk t h = absurd mi
  next_found (x ∷ xs) s i k (inl e) (inl f) t h = let never = o.never x in grind arith
  next_found (x ∷ xs) s i k (inl e) (inr mk) t h =
      rw (eq-eqb x i (sym e)) (first_found xs s.1 k mk (λ j m. h j (inr m) (rw e (s.0 j m))))
  next_found (x ∷ xs) s i k (inr mi) (inl f) t h = let never = o.never x in let chain = o.chain x i x (s.0 i mi) in grind arith
  next_found (x ∷ xs) s i k (inr mi) (inr mk) t h =
      rw (apart x i (s.0 i mi)) (next_found xs s.1 i k mi mk t (λ j m. h j (inr m)))

  pub last_found : (l : List ℕ) → Ordered lt l → (i : ℕ) → In i l → ((j : ℕ) → In j l → lt i j ≡ false) → behind i l ≡ None
  last_found [] s i mi h = absurd mi
  last_found (x ∷ []) s i (inl e) h = rw (eq-eqb x i (sym e)) refl
  last_found (x ∷ y ∷ ys) s i (inl e) h = let earlier = h y (inr (inl refl)) in let later = s.0 y (inl refl) in grind arith
  last_found (x ∷ xs) s i (inr mi) h = rw (apart x i (s.0 i mi)) (last_found xs s.1 i mi (λ j m. h j (inr m)))

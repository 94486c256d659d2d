-- Rows read one after another.
use Rattle.std.proofs.Common.{◌≡◌, ℕ, zero, suc, ◌+◌, ◌-◌, ◌*◌, ◌<◌, ◌≤◌, true, List, [], ◌∷◌, ◌++◌, length, get_or, take, slice_range, ℤ, pos, Some, None, Option, refl, ap, ◌∙◌, ap₂, arith}
use Rattle.std.proofs.lemmas.List.{get_or-take, get_or-drop}
use Rattle.faults.specs.declared.load.LoadFault.{LoadFault}
use Rattle.points.specs.Points.{Gaussian, gaussian, origin, real, Within, Shape, whole, pair, levels, parts, value_at}
use Rattle.blocks.specs.Words.{all_within}
use Rattle.blocks.specs.Systems.{values}
use Rattle.points.proofs.Inside.{Inside, inside_within}
use Rattle.blocks.proofs.Limits.{within_at}
use Rattle.blocks.specs.declared.words.ChannelRow.{ChannelRow}
use Rattle.blocks.specs.Blocks.{row_of, matrix_of}
use Rattle.faults.specs.Refusals.{or_else}
use Rattle.blocks.specs.Refusals.{row_fault, channel_word_count, channel_fault}

-- how many words n rows have
abbrev pub row_words : Shape → ℕ → ℕ
row_words sh zero = 0
row_words sh (suc k) = 1 + parts sh * k + row_words sh k

pub all_words : (sh : Shape) → row_words sh (levels sh) ≡ channel_word_count sh
all_words whole = refl
all_words pair = refl

pub levels_few : (sh : Shape) → levels sh ≤ 8
levels_few whole = omega arith
levels_few pair = omega arith

pub values_same : (sh : Shape) (n i j : ℕ) (xs ys : List ℤ) → ((k : ℕ) → k < parts sh * n → get_or xs (i + k) (pos 0) ≡ get_or ys (j + k) (pos 0)) → values sh n i xs ≡ values sh n j ys
values_same sh zero i j xs ys h = refl
values_same sh (suc n) i j xs ys h = ap₂ ◌∷◌ (first sh h) (values_same sh n (i + parts sh) (j + parts sh) xs ys (rest sh h))
  where
    at : (k : ℕ) {x y : ℕ} → i + k ≡ x → j + k ≡ y → get_or xs (i + k) (pos 0) ≡ get_or ys (j + k) (pos 0) → get_or xs x (pos 0) ≡ get_or ys y (pos 0)
    at k p q e = rw (← p, ← q) e

    first : (sh : Shape) → ((k : ℕ) → k < parts sh * suc n → get_or xs (i + k) (pos 0) ≡ get_or ys (j + k) (pos 0)) → value_at sh xs i ≡ value_at sh ys j
    first whole h = ap real (at 0 (omega arith) (omega arith) (h 0 (omega arith)))
    first pair h = ap₂ gaussian (at 0 (omega arith) (omega arith) (h 0 (omega arith))) (h 1 (omega arith))

    rest : (sh : Shape) → ((k : ℕ) → k < parts sh * suc n → get_or xs (i + k) (pos 0) ≡ get_or ys (j + k) (pos 0)) → (k : ℕ) → k < parts sh * n → get_or xs (i + parts sh + k) (pos 0) ≡ get_or ys (j + parts sh + k) (pos 0)
    rest whole h k b = at (1 + k) (omega arith) (omega arith) (h (1 + k) (omega arith))
    rest pair h k b = at (2 + k) (omega arith) (omega arith) (h (2 + k) (omega arith))

-- values of the same words
pub values_range : (sh : Shape) (n j : ℕ) (xs ys : List ℤ) → take (parts sh * n) xs ≡ slice_range ys j (j + parts sh * n) → values sh n 0 xs ≡ values sh n j ys
values_range sh n j xs ys e =
    values_same sh n 0 j xs ys
    (λ k h.
    let z : 0 + k ≡ k = omega arith in
    let w : k < j + parts sh * n - j = omega arith in
    rw z (simp (get_or-take, get_or-drop) at (ap (λ (ws : List ℤ). get_or ws k (pos 0)) e)))

-- a row that was read, and the rows after it
module _ (sh : Shape) (m i : ℕ) (ws : List ℤ) where
  pub fault_later : row_fault (parts sh * m) i ws ≡ None → channel_fault sh (suc m) i ws ≡ channel_fault sh m (i + (1 + parts sh * m)) ws
  fault_later e = rw e (or_none (channel_fault sh m (i + (1 + parts sh * m)) ws))
    where
      or_none : (o : Option LoadFault) → or_else o None ≡ o
      or_none None = refl
      or_none (Some f) = refl

  pub row_is : (r : ChannelRow) → pos r.gain ∷ take (parts sh * m) r.words ≡ get_or ws i (pos 0) ∷ slice_range ws (i + 1) (i + 1 + parts sh * m) → row_of sh m r ≡ real (get_or ws i (pos 0)) ∷ values sh m (i + 1) ws
  row_is r e = let g : pos r.gain ≡ get_or ws i (pos 0) = cc in ap₂ ◌∷◌ (ap real g) (values_range sh m (i + 1) r.words ws (cc))

-- the matrix of the rows that were read, with what comes after it
module _ (sh : Shape) where
  pub matrix_more : (n m : ℕ) (rs : List ChannelRow) (r : ChannelRow) (rest : List (List Gaussian)) → length rs + suc m ≡ n → matrix_of sh n (rs ++ r ∷ []) ++ rest ≡ matrix_of sh n rs ++ row_of sh m r ∷ rest
  matrix_more zero m rs r rest e = absurd (omega arith)
  matrix_more (suc n) m [] r rest e = let same : n ≡ m = omega arith in rw same (ap (λ (xs : List (List Gaussian)). row_of sh m r ∷ (xs ++ rest)) (none m))
    where
      none : (n : ℕ) → matrix_of sh n [] ≡ []
      none zero = refl
      none (suc n) = refl
  matrix_more (suc n) m (x ∷ rs) r rest e = ap (λ (xs : List (List Gaussian)). row_of sh n x ∷ xs) (matrix_more n m rs r rest (omega arith))

  pub matrix_all : (n : ℕ) (rs more : List ChannelRow) → length rs ≡ n → matrix_of sh n rs ++ [] ≡ matrix_of sh n (rs ++ more)
  matrix_all zero rs more e = refl
  matrix_all (suc n) [] more e = absurd (omega arith)
  matrix_all (suc n) (r ∷ rs) more e = ap (λ (xs : List (List Gaussian)). row_of sh n r ∷ xs) (matrix_all n rs more (omega arith))

-- one of many values, and what it is made of
pub value_of_many : (sh : Shape) (n i k : ℕ) (ws : List ℤ) → k < n → get_or (values sh n i ws) k origin ≡ value_at sh ws (i + parts sh * k)
value_of_many sh zero i k ws h = let bad : ⊥ = omega arith in absurd bad
value_of_many sh (suc n) i zero ws h = let z : i ≡ i + parts sh * 0 = omega arith in ap (value_at sh ws) z
value_of_many sh (suc n) i (suc k) ws h = value_of_many sh n (i + parts sh) k ws (omega arith) ∙ ap (value_at sh ws) (moved sh)
  where
    moved : (sh : Shape) → i + parts sh + parts sh * k ≡ i + parts sh * suc k
    moved whole = omega arith
    moved pair = omega arith

pub value_inside : (sh : Shape) (b : ℕ) (ws : List ℤ) (i : ℕ) → all_within b ws ≡ true → Inside sh b (value_at sh ws i)
value_inside whole b ws i t = record { re = within_at b ws i t; im = omega arith }
value_inside pair b ws i t = record { re = within_at b ws i t; im = within_at b ws (i + 1) t }

pub value_near : (sh : Shape) (b : ℕ) (ws : List ℤ) (i : ℕ) → all_within b ws ≡ true → Within b (value_at sh ws i)
value_near sh b ws i t = inside_within sh b (value_at sh ws i) (value_inside sh b ws i t)

-- What a table's check finds at a point, among several and in a list, and the turns of its loop.
use Rattle.std.specs.Prelude.{◌≡◌, ℕ, zero, suc, ◌+◌, ◌-◌, ◌<◌, ◌≤◌, true, false, not, ◌||◌, ◌⊎◌, List, [], ◌∷◌, map, length, take, Some, None, Ok, Option, Decides, ◌==◌, ◌≢◌, nat_lt, slice_index_or, refl}
use Rattle.std.proofs.Common.{sym, subst, ap, ◌∙◌, inl, inr, ⊎_elim, arith}
use Rattle.std.proofs.lemmas.List.{length-map, take-map}
use Rattle.std.proofs.lemmas.Bool.{eqb-true, eqb-false, cases_Bool, cases_eq, cases_lt}
use Rattle.std.proofs.lemmas.Bool.Decides.{nat_tests, not_from_Decides}
use Rattle.faults.specs.declared.alphabet.AlphabetFault.{AlphabetFault}
use Rattle.faults.specs.declared.alphabet.AlphabetFault.TheVariants.{TableSize, Part, Repeated}
use Rattle.faults.specs.Refusals.{when, or_else, first_of, answer}
use Rattle.points.specs.Points.{Gaussian, origin, within, Within, Shape, size_limit}
use Rattle.alphabets.specs.Alphabets.{Lawful}
use Rattle.alphabets.proofs.Ranked.{within_told}
use Rattle.tables.specs.Tables.{among, point_fault, points_fault, table_fault, AcceptsLawful, Fine, FineBelow, Refusal, TellsFirst}
use Rattle.tables.specs.Same.{among_tells}
use Rattle.tables.specs.Listed.{point_at}

-- ---- the size

pub size_refused : (sh : Shape) (pts : List Gaussian) → (length pts ≡ 0) ⊎ (size_limit sh < length pts) → table_fault sh pts ≡ Some TableSize
unfolding table_fault
size_refused sh pts h =
    let t : (length pts == 0 || nat_lt (size_limit sh) (length pts)) ≡ true = grind (arith, nat_tests) in
    rw t refl

or_else_none : {F : Type 0} (f : Option F) → or_else f None ≡ f
or_else_none (Some f) = refl
or_else_none None = refl

pub size_passed : (sh : Shape) (pts : List Gaussian) → (length pts ≢ 0) → length pts ≤ size_limit sh → table_fault sh pts ≡ points_fault pts (length pts) 0
unfolding table_fault
size_passed sh pts some few =
    let t : (length pts == 0 || nat_lt (size_limit sh) (length pts)) ≡ false = grind (arith, nat_tests) in
    rw t (or_else_none (points_fault pts (length pts) 0))

-- ---- the points

far_told : (b : ℕ) (u : Gaussian) → within b u ≡ false → Within b u → ⊥
far_told b u e w = let re = w.re in let im = w.im in grind (arith, nat_tests)

module _ (sh : Shape) (pts : List Gaussian) where
  -- the point at index i has a fault
  record Wrong (i : ℕ) : Type 0 where
    fault : AlphabetFault
    is : point_fault pts i ≡ Some fault
    not_fine : Fine pts i → ⊥
    refusal : FineBelow sh pts i → Refusal sh pts fault

  abbrev Looked : ℕ → Type 0
  Looked i = ((point_fault pts i ≡ None) × Fine pts i) ⊎ Wrong i

  point_looked : (i : ℕ) → i < length pts → Looked i
  point_looked i h = go (among_tells (slice_index_or pts i origin) pts i (omega arith)) (cases_Bool (within 15 (slice_index_or pts i origin))) (cases_Bool (among (slice_index_or pts i origin) (take i pts)))
    where
      go : Decides (among (slice_index_or pts i origin) (take i pts)) ((k : ℕ) × (k < i) × (slice_index_or pts k origin ≡ slice_index_or pts i origin)) → (within 15 (slice_index_or pts i origin) ≡ true) ⊎ (within 15 (slice_index_or pts i origin) ≡ false) → (among (slice_index_or pts i origin) (take i pts) ≡ true) ⊎ (among (slice_index_or pts i origin) (take i pts) ≡ false) → Looked i
      go tells (inr far) b =
          let beyond = far_told 15 (slice_index_or pts i origin) far in
          inr (record { fault = Part i; is = rw far refl; not_fine = λ f. beyond f.near; refusal = λ below. (below, beyond) })
      go tells (inl near) (inl old) =
          let q = tells.0 old in
          inr (record { fault = Repeated i; is = rw (near, old) refl; not_fine = λ f. f.new q.0 q.1 q.2; refusal = λ below. (below, within_told 15 (slice_index_or pts i origin) near, q) })
      go tells (inl near) (inr new) =
          inl (rw (near, new) refl, record { near = within_told 15 (slice_index_or pts i origin) near; new = λ k l e. not_from_Decides _ tells new (k, l, e) })

  -- of the n points from index i on this is the first with a fault
  record FirstWrong (n i : ℕ) : Type 0 where
    place : ℕ
    from : i ≤ place
    within : place < i + n
    fine : (k : ℕ) → i ≤ k → k < place → Fine pts k
    wrong : Wrong place
    is : points_fault pts n i ≡ Some wrong.fault

  abbrev AllLooked : ℕ → ℕ → Type 0
  AllLooked n i = ((points_fault pts n i ≡ None) × ((j : ℕ) → i ≤ j → j < i + n → Fine pts j)) ⊎ FirstWrong n i

  -- one point more, in front
  more_looked : (n i : ℕ) → Looked i → AllLooked n (i + 1) → AllLooked (suc n) i
  more_looked n i (inr w) rest = inr (record { place = i; from = omega arith; within = omega arith; fine = λ k l m. absurd (omega arith); wrong = w; is = rw w.is refl })
  more_looked n i (inl ok) (inl rest) =
      inl (rw ok.0 rest.0, λ j l m. ⊎_elim (λ q. subst (Fine pts) (sym q) ok.1) (λ ne. rest.1 j (omega arith) (omega arith)) (cases_eq j i))
  more_looked n i (inl ok) (inr w) =
      inr (record {
        place = w.place;
        from = omega (arith, w.from);
        within = omega (arith, w.within);
        fine = λ k l m. ⊎_elim (λ q. subst (Fine pts) (sym q) ok.1) (λ ne. w.fine k (omega arith) m) (cases_eq k i);
        wrong = w.wrong;
        is = rw ok.0 w.is;
      })

  points_looked : (n i : ℕ) → i + n ≤ length pts → AllLooked n i
  points_looked zero i h = inl (refl, λ j l m. absurd (omega arith))
  points_looked (suc n) i h = more_looked n i (point_looked i (omega arith)) (points_looked n (i + 1) (omega arith))

-- ---- the list

lawful_fine : (sh : Shape) (pts : List Gaussian) → Lawful sh pts → (j : ℕ) → j < length pts → Fine pts j
lawful_fine sh pts l j h = record { near = l.near j h; new = λ k m. l.distinct k j m h }

-- a list passes, and each point is fine, or it is refused
table_looked : (sh : Shape) (pts : List Gaussian) → ((table_fault sh pts ≡ None) × (0 < length pts) × (length pts ≤ size_limit sh) × ((j : ℕ) → j < length pts → Fine pts j)) ⊎ ((f : AlphabetFault) × (table_fault sh pts ≡ Some f) × Refusal sh pts f × (Lawful sh pts → ⊥))
table_looked sh pts =
    ⊎_elim
    (λ e. inr (TableSize, size_refused sh pts (inl e), inl e, λ l. let some = l.some in omega arith))
    (λ some. ⊎_elim
    (λ many. inr (TableSize, size_refused sh pts (inr many), inr many, λ l. let few = l.few in omega arith))
    (λ few.
    let here = size_passed sh pts some few in
    ⊎_elim
    (λ ok. inl (here ∙ ok.0, omega arith, few, λ j h. ok.1 j (omega arith) (omega arith)))
    (λ w.
    let within : w.place < length pts = omega (arith, w.within) in
    inr (w.wrong.fault, here ∙ w.is, w.wrong.refusal (record { few = few; within = within; fine = λ j h. w.fine j (omega arith) h }), λ l. w.wrong.not_fine (lawful_fine sh pts l w.place within)))
    (points_looked sh pts (length pts) 0 (omega arith)))
    (cases_lt (size_limit sh) (length pts)))
    (cases_eq (length pts) 0)

pub accepts_lawful : AcceptsLawful
accepts_lawful sh pts own =
    ⊎_elim
    (λ ok. (λ e. record { some = ok.1; few = ok.2; near = λ i h. (ok.3 i h).near; own = own; distinct = λ i j h k. (ok.3 j k).new i h }, λ l. ok.0))
    (λ w. (λ e. cc (w.1), λ l. absurd (w.3 l)))
    (table_looked sh pts)

pub tells_first : TellsFirst
tells_first sh pts f e =
    ⊎_elim
    (λ ok. cc (ok.0))
    (λ w. let is : w.0 ≡ f = cc (w.1) in subst (Refusal sh pts) is w.2)
    (table_looked sh pts)

-- ---- a list of points of either kind

pub none_left : (pts : List Gaussian) (n i : ℕ) → n ≤ i → points_fault pts (n - i) i ≡ None
none_left pts n i h = let z : n - i ≡ 0 = omega arith in rw z refl

pub none_refused : {F : Type 0} (f : Option F) → Ok (tt {0}) ≡ answer f (tt {0}) → f ≡ None
none_refused (Some f) e = cc
none_refused None e = refl

module _ {K : Type 0} (sh : Shape) (m : K → Gaussian) (xs : List K) where
  pub listed_empty : true ≡ (length xs == 0) → table_fault sh (map m xs) ≡ Some TableSize
  listed_empty e = size_refused sh (map m xs) (inl (length-map xs m ∙ eqb-true (length xs) 0 (sym e)))

  pub listed_many : size_limit sh < length xs → table_fault sh (map m xs) ≡ Some TableSize
  listed_many h = size_refused sh (map m xs) (inr (omega (arith, length-map xs m)))

  -- once the size has passed, the points decide
  pub listed_some : false ≡ (length xs == 0) → length xs ≤ size_limit sh → table_fault sh (map m xs) ≡ points_fault (map m xs) (length xs - 0) 0
  listed_some some few =
      let l : length (map m xs) ≡ length xs - 0 = omega (arith, length-map xs m) in
      size_passed sh (map m xs) (λ z. eqb-false (length xs) 0 (sym some) (omega arith)) (omega arith) ∙ ap (λ (k : ℕ). points_fault (map m xs) k 0) l

-- the turn at the index i: the fault f of the list is that of the points from i on
module _ {K : Type 0} (m : K → Gaussian) (xs : List K) (i : ℕ) {p : K} (h : i < length xs) (read : p ≡ slice_index_or xs i p) {f : Option AlphabetFault} (left : f ≡ points_fault (map m xs) (length xs - i) i) where
  turn : f ≡ or_else (first_of (when (not (within 15 (m p))) (Part i) ∷ when (among (m p) (map m (take i xs))) (Repeated i) ∷ [])) (points_fault (map m xs) (length xs - (i + 1)) (i + 1))
  turn =
      let e : length xs - i ≡ suc (length xs - (i + 1)) = omega arith in
      left ∙ rw (e, point_at m xs i p h, ← read, take-map m i xs) refl

  pub part_refused : false ≡ within 15 (m p) → f ≡ Some (Part i)
  part_refused far = turn ∙ rw (← far) refl

  pub repeated_refused : true ≡ within 15 (m p) → true ≡ among (m p) (map m (take i xs)) → f ≡ Some (Repeated i)
  repeated_refused near old = turn ∙ rw (← near, ← old) refl

  pub point_passed : true ≡ within 15 (m p) → false ≡ among (m p) (map m (take i xs)) → f ≡ points_fault (map m xs) (length xs - (i + 1)) (i + 1)
  point_passed near new = turn ∙ rw (← near, ← new) refl

-- The points of a grid, and that they are those of an alphabet of pairs.
use Rattle.std.specs.Prelude.{◌≡◌, ℕ, ◌+◌, ◌*◌, ◌/◌, ◌%◌, ◌<◌, List, length, ℤ, slice_index_or, refl}
use Rattle.std.proofs.Common.{sym, ◌∙◌, ap, ap₂, arith}
use Rattle.std.proofs.lemmas.List.FromFn.{length-map-range_with_len, get_or-map-range_with_len}
use Rattle.std.proofs.lemmas.Nat.{mul-le, mul-add-lt, div-mul-add, mod-mul-add, div_below, mod_below, div-add-mod'}
use Rattle.points.specs.Points.{Gaussian, gaussian, real, origin, whole, pair}
use Rattle.alphabets.specs.Alphabets.{Lawful}
use Rattle.grids.specs.Grids.{grid_point, grid_points, GridOrder}

pub grid_length : (ps : List Gaussian) → length (grid_points ps) ≡ length ps * length ps
unfolding grid_points
grid_length ps = length-map-range_with_len (grid_point ps) 0 (length ps * length ps)

pub grid_at : (ps : List Gaussian) (k : ℕ) → k < length ps * length ps → slice_index_or (grid_points ps) k origin ≡ grid_point ps k
unfolding grid_points
grid_at ps k h = get_or-map-range_with_len (grid_point ps) 0 (length ps * length ps) k k origin h (omega arith)

-- a whole point is known by its real part
real_same : (ps : List Gaussian) (i j : ℕ) → Lawful whole ps → i < length ps → j < length ps → (slice_index_or ps i origin).re ≡ (slice_index_or ps j origin).re → i ≡ j
real_same ps i j l hi hj e =
    let same = sym (l.own i hi) ∙ ap real e ∙ l.own j hj in
    ordered i j (λ h. l.distinct i j h hj same) (λ h. l.distinct j i h hi (sym same))
  where
    ordered : (i j : ℕ) → (i < j → ⊥) → (j < i → ⊥) → i ≡ j
    ordered i j p q = omega arith

-- an index is known by its row and column
index_same : (n i j : ℕ) → i / n ≡ j / n → i % n ≡ j % n → i ≡ j
index_same n i j q r = sym (div-add-mod' i n) ∙ (λ t. q t * n + r t) ∙ div-add-mod' j n

grid_distinct : (ps : List Gaussian) (i j : ℕ) → Lawful whole ps → i < length ps * length ps → j < length ps * length ps → grid_point ps i ≡ grid_point ps j → i ≡ j
grid_distinct ps i j l hi hj e =
    let n = length ps in
    index_same n i j
    (real_same ps (i / n) (j / n) l (div_below i n n l.some hi) (div_below j n n l.some hj) (ap (λ (p : Gaussian). p.re) e))
    (real_same ps (i % n) (j % n) l (mod_below i n l.some) (mod_below j n l.some) (ap (λ (p : Gaussian). p.im) e))

pub grid_lawful : (ps : List Gaussian) → Lawful whole ps → Lawful pair (grid_points ps)
grid_lawful ps l =
    let n = length ps in
    let e = grid_length ps in
    record {
      some = rw e (mul-le 1 1 n n l.some l.some);
      few = rw e (mul-le n n 16 16 l.few l.few);
      near = λ k h.
          let below : k < n * n = rw e at h in
          rw (grid_at ps k below) (record { re = (l.near (k / n) (div_below k n n l.some below)).re; im = (l.near (k % n) (mod_below k n l.some)).re });
      own = λ k h. refl;
      distinct = λ i j h k same.
          let hj : j < n * n = rw e at k in
          let hi : i < n * n = omega arith in
          let equal = grid_distinct ps i j l hi hj (sym (grid_at ps i hi) ∙ same ∙ grid_at ps j hj) in
          omega arith;
    }

-- what the code finds with the side's size n
pub grid_size : (ps : List Gaussian) (n : ℕ) → n ≡ length ps → n * n ≡ length (grid_points ps)
grid_size ps n e = rw e (sym (grid_length ps))

pub grid_held : (ps : List Gaussian) (n k : ℕ) (a b : ℤ) → n ≡ length ps → k < n * n → real a ≡ slice_index_or ps (k / n) origin → real b ≡ slice_index_or ps (k % n) origin → gaussian a b ≡ slice_index_or (grid_points ps) k origin
grid_held ps n k a b e h p q =
    let row : real a ≡ slice_index_or ps (k / length ps) origin = rw e at p in
    let column : real b ≡ slice_index_or ps (k % length ps) origin = rw e at q in
    rw (grid_at ps k (rw e at h), ← row, ← column) refl

-- the quotient of i·L + j by L is i, and the remainder is j
pub grid_order : GridOrder
grid_order ps i j hi hj =
    let n = length ps in
    let k = i * n + j in
    grid_at ps k (mul-add-lt i n j n hi hj) ∙ ap₂ (λ (q r : ℕ). gaussian (slice_index_or ps q origin).re (slice_index_or ps r origin).re) (div-mul-add i n j hj) (mod-mul-add i n j hj)

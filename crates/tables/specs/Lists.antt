-- Lists that passed the check are those of alphabets, and so are the points of a table.
use Rattle.std.specs.Prelude.{◌≡◌, ℕ, ◌≤◌, Bool, true, false, not, if◌then◌else◌, List, [], ◌∷◌, map, is_some, Some, None, Option, slice_index_or, refl}
use Rattle.std.proofs.Common.{arith, length, ◌<◌, zero, suc}
use Rattle.points.specs.Points.{Gaussian, origin, Shape, whole, pair, project, size_limit}
use Rattle.alphabets.specs.Alphabets.{Lawful}
use Rattle.alphabets.proofs.Asked.{project_origin}
use Rattle.tables.specs.Tables.{table_fault, passes, table_points, KeepsPoints}
use Rattle.tables.specs.Checks.{accepts_lawful}

pub none_passes : {F : Type 0} {f : Option F} → f ≡ None → not (is_some f) ≡ true
none_passes e = rw e refl

pub passes_none : {F : Type 0} (f : Option F) → not (is_some f) ≡ true → f ≡ None
passes_none None t = refl
passes_none (Some f) t = cc

-- the list of the origin alone passes, of either shape
pub origin_passes : (sh : Shape) → passes sh (origin ∷ []) ≡ true
unfolding table_fault
origin_passes whole = refl
origin_passes pair = refl

-- every point of a list has the shape that each value of its kind has
pub own_all : {K : Type 0} (sh : Shape) (m : K → Gaussian) → ((p : K) → project sh (m p) ≡ m p) → (xs : List K) (i : ℕ) → i < length (map m xs) → project sh (slice_index_or (map m xs) i origin) ≡ slice_index_or (map m xs) i origin
own_all sh m own [] i h = absurd (omega arith)
own_all sh m own (x ∷ xs) zero h = own x
own_all sh m own (x ∷ xs) (suc i) h = own_all sh m own xs i (omega arith)

pub passed_lawful : {K : Type 0} (sh : Shape) (m : K → Gaussian) → ((p : K) → project sh (m p) ≡ m p) → (xs : List K) → passes sh (map m xs) ≡ true → Lawful sh (map m xs)
passed_lawful sh m own xs t = (accepts_lawful sh (map m xs) (own_all sh m own xs)).0 (passes_none (table_fault sh (map m xs)) t)

origin_all : (i : ℕ) → slice_index_or (origin ∷ []) i origin ≡ origin
origin_all zero = refl
origin_all (suc i) = refl

origin_few : (sh : Shape) → 1 ≤ size_limit sh
origin_few whole = omega arith
origin_few pair = omega arith

origin_lawful : (sh : Shape) → Lawful sh (origin ∷ [])
origin_lawful sh = record {
  some = omega arith;
  few = origin_few sh;
  near = λ i h. rw (origin_all i) (record { re = omega arith; im = omega arith });
  own = λ i h. rw (origin_all i) (project_origin sh);
  distinct = λ i j h k e. omega arith;
}

pub table_lawful : {K : Type 0} (sh : Shape) (m : K → Gaussian) → ((p : K) → project sh (m p) ≡ m p) → (xs : List K) → Lawful sh (table_points sh (map m xs))
unfolding table_points
table_lawful sh m own xs = split (passes sh (map m xs)) refl
  where
    split : (b : Bool) → passes sh (map m xs) ≡ b → Lawful sh (if b then map m xs else origin ∷ [])
    split true e = passed_lawful sh m own xs e
    split false e = origin_lawful sh

pub keeps_points : KeepsPoints
unfolding table_points
keeps_points sh pts t = rw t refl

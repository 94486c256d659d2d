-- Equal points: what the tests of two points and of a list of them tell.
use Rattle.std.specs.Prelude.{◌≡◌, ℕ, ◌<◌, ◌≤◌, suc, ◌+◌, Bool, ◌||◌, List, drop, map, length, take, ℤ, pos, negsuc, Decides, ◌==◌, slice_index_or}
use Rattle.std.proofs.Common.{sym, ap, ◌∙◌, arith, get_or-take, length-take-le, add-one, drop-cons}
use Rattle.std.proofs.lemmas.Bool.Decides.{Decides-eqb, Decides-and, Decides-like, same_from_decides}
use Rattle.std.proofs.lemmas.List.{get_or_default}
use Rattle.std.proofs.lemmas.List.Folds.{list_any_at, Any-from_list_any}
use Rattle.points.specs.Points.{Gaussian, gaussian, origin, same_part, same}
use Rattle.tables.specs.Tables.{among}

part_tells : (a b : ℤ) → Decides (same_part a b) (a ≡ b)
part_tells (pos a) (pos b) = Decides-like (a == b) (ap pos) (λ e. cc) (Decides-eqb a b)
part_tells (pos a) (negsuc b) = (λ h. cc, λ e. cc)
part_tells (negsuc a) (pos b) = (λ h. cc, λ e. cc)
part_tells (negsuc a) (negsuc b) = Decides-like (a == b) (ap negsuc) (λ e. cc) (Decides-eqb a b)

pub same_tells : (s t : Gaussian) → Decides (same s t) (s ≡ t)
same_tells s t =
    Decides-like
    (same s t)
    (λ p. ap (λ (a : ℤ). gaussian a s.im) p.0 ∙ ap (gaussian t.re) p.1)
    (λ e. (ap (λ (u : Gaussian). u.re) e, ap (λ (u : Gaussian). u.im) e))
    (Decides-and (same_part s.re t.re) (same_part s.im t.im) (part_tells s.re t.re) (part_tells s.im t.im))

-- whether an earlier point is s
pub among_tells : (s : Gaussian) (pts : List Gaussian) (i : ℕ) → i ≤ length pts → Decides (among s (take i pts)) ((k : ℕ) × (k < i) × (slice_index_or pts k origin ≡ s))
among_tells s pts i h =
    let few = length-take-le i pts h in (
      λ t.
          let p = Any-from_list_any (λ (v : Gaussian). same v s) (take i pts) t in
          let before : p.0 < i = omega (arith, p.2) in
          (p.0, before, sym (get_or-take i pts p.0 origin before) ∙ get_or_default (take i pts) p.0 origin p.1 p.2 ∙ p.3 ∙ (same_tells p.1 s).0 p.4),
      λ q. list_any_at (λ (v : Gaussian). same v s) (take i pts) q.0 origin (omega (arith, q.1)) ((same_tells (slice_index_or (take i pts) q.0 origin) s).1 (get_or-take i pts q.0 origin q.1 ∙ q.2)),
    )

-- values of a kind whose meaning leaves nothing out
module _ {K : Type 0} (m : K → Gaussian) (faithful : (p q : K) → m p ≡ m q → p ≡ q) where
  same_as : (r : Bool) (p q : K) → Decides r (p ≡ q) → same (m p) (m q) ≡ r
  same_as r p q d = same_from_decides (same (m p) (m q)) r (
    (λ h. faithful p q ((same_tells (m p) (m q)).0 h)),
    (λ e. (same_tells (m p) (m q)).1 (ap m e)),
  ) d

  -- the point at an index is looked at, and what is left decides
  pub among_turn : (xs : List K) (i : ℕ) (p q : K) (r : Bool) → i < length xs → p ≡ slice_index_or xs i p → Decides r (p ≡ q) → among (m q) (map m (drop i xs)) ≡ (r || among (m q) (map m (drop (i + 1) xs)))
  among_turn xs i p q r within read d =
      ap (λ (ys : List K). among (m q) (map m ys)) (drop-cons xs i p within)
      ∙ rw (← read, add-one) (ap (λ (b : Bool). b || among (m q) (map m (drop (suc i) xs))) (same_as r p q d))

-- The points of a PAM, and that they are those of a whole alphabet.
use Rattle.std.specs.Prelude.{◌≡◌, ℕ, ◌-◌, ◌*◌, ◌<◌, ◌≤◌, length, pos, ◌-ℤ◌, ◌*ℤ◌, slice_index_or, refl}
use Rattle.std.proofs.Common.{sym, ◌∙◌, ap, arith, to_z, of_z}
use Rattle.std.specs.Int.{w32}
use Rattle.std.proofs.lemmas.List.FromFn.{length-map-range_with_len, get_or-map-range_with_len}
use Rattle.std.proofs.lemmas.Int.{ints, to_z_pos}
use Rattle.points.specs.Points.{Gaussian, origin, Within, whole}
use Rattle.alphabets.specs.Alphabets.{Lawful}
use Rattle.pams.specs.Pams.{pam_size, pam_point, pam_points}
use Rattle.pams.specs.declared.pam.PamSize.{PamSize}
use Rattle.pams.specs.declared.pam.PamSize.TheVariants.{Two, Four, Eight, Sixteen}

pub record Sized (n : ℕ) : Type 0 where
  pub some : 0 < n
  pub few : n ≤ 16

pub sized : (s : PamSize) → Sized (pam_size s)
sized Two = record { some = omega arith; few = omega arith }
sized Four = record { some = omega arith; few = omega arith }
sized Eight = record { some = omega arith; few = omega arith }
sized Sixteen = record { some = omega arith; few = omega arith }

pub pam_length : (n : ℕ) → length (pam_points n) ≡ n
unfolding pam_points
pam_length n = length-map-range_with_len (pam_point n) 0 n

pub pam_at : (n i : ℕ) → i < n → slice_index_or (pam_points n) i origin ≡ pam_point n i
unfolding pam_points
pam_at n i h = get_or-map-range_with_len (pam_point n) 0 n i i origin h (omega arith)

pam_near : (n i : ℕ) → Sized n → i < n → Within 15 (pam_point n i)
pam_near n i s h = record { re = omega (arith, ints); im = omega arith }

pam_distinct : (n i j : ℕ) → pam_point n i ≡ pam_point n j → i ≡ j
pam_distinct n i j e = let same = ap (λ (p : Gaussian). p.re) e in omega (arith, ints)

pub pam_lawful : (n : ℕ) → Sized n → Lawful whole (pam_points n)
pam_lawful n s =
    let e = pam_length n in
    record {
      some = omega arith;
      few = omega arith;
      near = λ i h. rw (pam_at n i (omega arith)) (pam_near n i s (omega arith));
      own = λ i h. rw (pam_at n i (omega arith)) refl;
      distinct = λ i j h k same.
          let equal = pam_distinct n i j (sym (pam_at n i (omega arith)) ∙ same ∙ pam_at n j (omega arith)) in
          omega arith;
    }

-- what the machine's words hold of 2i − (n − 1)
pub pam_held : (n m i : ℕ) → Sized n → m ≡ n → i < n → to_z w32 (of_z w32 (to_z w32 (of_z w32 (pos 2 *ℤ to_z w32 i)) -ℤ to_z w32 (of_z w32 (to_z w32 m -ℤ pos 1)))) ≡ pos (2 * i) -ℤ pos (n - 1)
pam_held n m i s e h = rw (to_z_pos w32 i (omega arith)) (omega (arith, ints))

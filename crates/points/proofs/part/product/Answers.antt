use Rattle.std.proofs.Common.{◌≡◌, ◌*ℤ◌, arith, w32, to_z, of_z}
use Rattle.std.proofs.lemmas.Int.{to_z-of_z, fits_signed_mul}
use Rattle.points.proofs.Reach.{product_le}
use Rattle.points.proofs.part.product.Goals as goal

pub returns : goal.returns
returns c =
    let r = c.args.r in
    let s = c.args.s in
    let fr = c.ranges.r in
    let fs = c.ranges.s in
    let fp = fits_signed_mul w32 r s 2048 15 c.requires.entry c.requires.point (omega arith) in
    let value : to_z w32 (of_z w32 (to_z w32 (of_z w32 r) *ℤ to_z w32 (of_z w32 s))) ≡ r *ℤ s = simp to_z-of_z in
    record { value = value; bound = rw value (product_le r s 2048 15 c.requires.entry c.requires.point) }

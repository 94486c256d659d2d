use Rattle.std.proofs.Common.{◌≡◌, ℕ, ◌*◌, ℤ, pos, ◌-ℤ◌, ◌*ℤ◌, nat_abs, ap, ◌∙◌, arith, w32}
use Rattle.std.proofs.lemmas.Int.{ints, to_z-of_z, to_z_pos}
use Rattle.points.proofs.Reach.{square_reach}
use Rattle.points.proofs.part.squared_offset.Goals as goal

pub returns : goal.returns
returns c =
    let u = c.args.u in
    let p = c.product.result in
    let fs = c.ranges.s in
    let small = to_z_pos w32 c.args.r (omega (arith, c.requires.gain)) in
    let is_product : p ≡ pos c.args.r *ℤ c.args.s = simp (to_z-of_z, small) at c.product.ensures.value in
    let offset : c.from-offset.result ≡ nat_abs (u -ℤ p) = omega (arith, ints, c.from-offset.ensures) in
    let value = ap (λ (n : ℕ). n * n) offset in
    record {
      value = value ∙ ap (λ (z : ℤ). nat_abs (u -ℤ z) * nat_abs (u -ℤ z)) is_product;
      bound = omega (arith, value, square_reach (u -ℤ p) 1079296 (omega (arith, ints)));
    }

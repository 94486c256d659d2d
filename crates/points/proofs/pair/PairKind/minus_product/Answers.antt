use Rattle.std.proofs.Common.{◌≡◌, ◌≤◌, ℤ, ◌+ℤ◌, ◌-ℤ◌, nat_abs, ap₂, arith, w32, to_z, of_z}
use Rattle.std.proofs.lemmas.Int.{ints}
use Rattle.points.specs.Points.{gaussian}
use Rattle.points.proofs.Reach.{product_is}
use Rattle.points.proofs.pair.PairKind.minus_product.Goals as goal

-- machine words hold a part of a target less two products
module _ (u a b : ℤ) (g : nat_abs u ≤ 1048576) (h : nat_abs a ≤ 30720) (k : nat_abs b ≤ 30720) where
  less_sub : to_z w32 (of_z w32 (to_z w32 (of_z w32 u) -ℤ to_z w32 (of_z w32 (to_z w32 (of_z w32 a) -ℤ to_z w32 (of_z w32 b))))) ≡ u -ℤ (a -ℤ b)
  less_sub = omega (arith, ints)

  less_add : to_z w32 (of_z w32 (to_z w32 (of_z w32 u) -ℤ to_z w32 (of_z w32 (to_z w32 (of_z w32 a) +ℤ to_z w32 (of_z w32 b))))) ≡ u -ℤ (a +ℤ b)
  less_add = omega (arith, ints)

pub overflow_sub-re : goal.overflow_sub-re
overflow_sub-re c = omega (arith, ints)

pub overflow_add-im : goal.overflow_add-im
overflow_add-im c = omega (arith, ints)

pub overflow_sub-result : goal.overflow_sub-result
overflow_sub-result c = omega (arith, ints)

pub overflow_sub-result-2 : goal.overflow_sub-result-2
overflow_sub-result-2 c = omega (arith, ints)

pub returns : goal.returns
returns c =
    let r = c.args.entry in
    let s = c.args.point in
    let h = c.requires.entry in
    let k = c.requires.point in
    let a = product_is r.re s.re c.product.result h.re k.re c.product.ensures.value in
    let b = product_is r.im s.im c.product-2.result h.im k.im c.product-2.ensures.value in
    let p = product_is r.re s.im c.product-3.result h.re k.im c.product-3.ensures.value in
    let q = product_is r.im s.re c.product-4.result h.im k.re c.product-4.ensures.value in
    ap₂ gaussian
    (rw (← a, ← b) (less_sub c.args.self.re c.product.result c.product-2.result c.requires.target.re c.product.ensures.bound c.product-2.ensures.bound))
    (rw (← p, ← q) (less_add c.args.self.im c.product-3.result c.product-4.result c.requires.target.im c.product-3.ensures.bound c.product-4.ensures.bound))

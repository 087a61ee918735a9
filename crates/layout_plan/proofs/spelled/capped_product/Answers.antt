use Rattle.std.proofs.Common.{◌≤◌, ◌-◌, ◌^◌, arith}
use Rattle.std.proofs.Math.Nat.{mul-le-mul}
use Rattle.layout_plan.proofs.spelled.capped_product.Goals as goal

pub overflow_mul-product : goal.overflow_mul-product
overflow_mul-product c =
    let low : c.args.count ≤ 2 ^ 64 - 1 = omega arith in
    let few : c.from.result ≤ 2 ^ 64 - 1 = omega (arith, c.from.ensures) in
    omega (arith, mul-le-mul low few)

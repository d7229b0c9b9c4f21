use Rattle.std.proofs.Common.{ℕ, ◌<◌, ◌≤◌, ◌^◌, arith, zero}
use Rattle.std.proofs.Math.Nat.{pow-le-pow_right}
use Rattle.plan_text.proofs.numbers.natural.Goals as goal

small_value : (value place : ℕ) → value < 10 ^ place → place ≤ 8 → value < 10 ^ 8
small_value value place h few =
    let ten : zero < 10 = omega arith in
    let most : 10 ^ place ≤ 10 ^ 8 = pow-le-pow_right ten few in
    omega arith

pub overflow_mul-value : goal.overflow_mul-value
overflow_mul-value c = omega (arith, small_value c.digits.value c.digits.digit-index c.digits.invariant.small (omega arith))

pub overflow_add-value : goal.overflow_add-value
overflow_add-value c = omega (arith, small_value c.digits.value c.digits.digit-index c.digits.invariant.small (omega arith))

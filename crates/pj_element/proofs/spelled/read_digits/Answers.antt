use Rattle.std.proofs.Common.{arith}
use Rattle.pj_element.proofs.Numbers.{few_fit}
use Rattle.pj_element.proofs.spelled.read_digits.Goals as goal

pub overflow_mul-number : goal.overflow_mul-number
overflow_mul-number c = omega (arith, few_fit c.loop-digit.digit-index c.loop-digit.number c.loop-digit.invariant.below (omega arith))

pub overflow_add-number : goal.overflow_add-number
overflow_add-number c = omega (arith, few_fit c.loop-digit.digit-index c.loop-digit.number c.loop-digit.invariant.below (omega arith))

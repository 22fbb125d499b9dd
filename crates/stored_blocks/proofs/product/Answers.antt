use native.Mathlib.Omega.{arith}
use mir.Syntax.{w16, w32}
use Rattle.integers.proofs.Word.{widens}
use Rattle.stored_blocks.proofs.Times.{divisor-small, product-fits, product_value}
use Rattle.stored_blocks.proofs.product.Goals as goal

pub overflow_cast-result : goal.overflow_cast-result
overflow_cast-result c = widens w16 w32 tt c.ranges.coefficient

pub overflow_cast-result-2 : goal.overflow_cast-result-2
overflow_cast-result-2 c = record { sfits = omega (arith, divisor-small c.ranges.coefficient c.ranges.quantizer.fits c.divisor.ensures) }

pub overflow_mul-result : goal.overflow_mul-result
overflow_mul-result c = product-fits c.ranges.coefficient c.ranges.quantizer.fits c.divisor.ensures

pub returns : goal.returns
returns c = let all = product_value c.ranges.coefficient c.ranges.quantizer.fits c.divisor.ensures in record { value = all.0; result_bound = all.1 }

use Rattle.lists.proofs.Tab.{Filled}
use Rattle.stored_blocks.specs.Dequantize.{product}
use Rattle.plane.proofs.decode.products_i32.Given as goal

abbrev pub invariant-loop-n : goal.invariant-loop-n
invariant-loop-n l = Filled (product l.coefficients l.quant) 64 l.n l.products

use Rattle.lists.proofs.Tab.{Filled}
use Rattle.stored_blocks.specs.Dequantize.{product}
use Rattle.plane.specs.Scale.{clamped16}
use Rattle.plane.proofs.decode.products_i16.Given as goal

abbrev pub invariant-loop-n : goal.invariant-loop-n
invariant-loop-n l = Filled (λ k. clamped16 (product l.coefficients l.quant k)) 64 l.n l.products

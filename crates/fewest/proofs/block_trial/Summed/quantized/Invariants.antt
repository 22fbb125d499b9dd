use lib.ListN.{get_or}
use lib.IntN.{pos}
use Rattle.lists.proofs.Tab.{Filled}
use Rattle.quantize.specs.Quantize.{coefficient}
use Rattle.fewest.proofs.block_trial.Summed.quantized.Given as goal

abbrev pub invariant-loop-n : goal.invariant-loop-n
invariant-loop-n l = Filled (λ k. coefficient (get_or l.self.sums k (pos 0)) (get_or l.quant k 0)) 64 l.n l.coefficients

use borrow.Author.Rules.{rules}
use Rattle.lists.proofs.Made.{made}
use Rattle.stored_blocks.specs.Dequantize.{product, dequantized}
use Rattle.stored_blocks.proofs.products.Goals as goal

pub returns : goal.returns
unfolding product dequantized
returns c = made _ _ 64 _ (λ i b y q k. (search rules, search rules)) c.from_fn.ensures.items

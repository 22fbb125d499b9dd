use borrow.Author.Rules.{rules}
use lib.Ieee.{of_bits, round}
use Rattle.lists.proofs.Made.{made}
use Rattle.guarded_quantizer.specs.Literals.{decimal}
use Rattle.guarded_quantizer.specs.Values.{level_shifted, row}
use Rattle.fdct_f64.proofs.load_row.Goals as goal

pub returns : goal.returns
unfolding of_bits round decimal level_shifted row
returns c = made _ _ _ _ (λ i b y q k. (search rules, search rules)) c.from_fn.ensures.items

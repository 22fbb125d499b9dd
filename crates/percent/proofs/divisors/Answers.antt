use borrow.Author.Rules.{rules}
use Rattle.lists.proofs.Made.{made}
use Rattle.percent.specs.Percent.{percent_table}
use Rattle.percent.proofs.divisors.Goals as goal

pub returns : goal.returns
unfolding percent_table
returns c = made _ _ 64 _ (λ i b y q k. (search rules, search rules)) c.from_fn.ensures.items

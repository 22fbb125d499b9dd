use mathlib.Core.Path.{◌∙◌}
use borrow.Author.Rules.{rules}
use Rattle.lists.proofs.Tab.{tab-get_d}
use Rattle.lists.proofs.Made.{made}
use Rattle.fdct.proofs.widen.Goals as goal

pub returns : goal.returns
returns c = made _ _ 64 _ (λ i b y q k. (search rules, search rules)) c.from_fn.ensures.items ∙ tab-get_d 0 c.args.narrow.now 64 c.requires

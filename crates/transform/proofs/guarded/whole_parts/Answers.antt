use borrow.Author.Rules.{rules}
use Rattle.lists.proofs.Made.{made}
use Rattle.transform.proofs.guarded.whole_parts.Goals as goal

pub returns : goal.returns
returns c = made _ _ _ _ (λ i b y q k. (search rules, search rules)) c.from_fn.ensures.items

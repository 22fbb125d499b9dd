use borrow.Author.Rules.{rules}
use Rattle.lists.proofs.Made.{made}
use Rattle.forward.specs.Forward.{centred_block}
use Rattle.fdct.proofs.Small.{centred-value}
use Rattle.fdct.proofs.level_shift.Goals as goal

pub returns : goal.returns
unfolding centred_block
returns c = made _ _ 64 _ (λ i b y q k. let v = centred-value _ _ c.requires.low (c.requires.most i b) in (search rules, search rules)) c.from_fn.ensures.items

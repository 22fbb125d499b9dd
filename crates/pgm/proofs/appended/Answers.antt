use borrow.Author.Rules.{rules}
use Rattle.pgm.proofs.Text.{digit-least}
use Rattle.pgm.proofs.appended.Goals as goal

pub overflow_sub-b : goal.overflow_sub-b
overflow_sub-b c = search (rules, digit-least _ c.requires)

use mathlib.Core.Path.{◌≡◌, ◌∙◌}
use borrow.Author.Rules.{rules}
use Rattle.refusals.specs.Numbers.{status_of}
use Rattle.refusals.proofs.Refusals.{has, ◌then◌, failed}
use Rattle.stored_blocks.proofs.dequantize.Goals as goal

pub returns-in_err-unless-clause-value : goal.returns-in_err-unless-clause-value
returns-in_err-unless-clause-value c =
    let three : status_of c.from_residual-in_err-unless.result ≡ 3 = search rules in
    three ∙ failed 2 _ (has (search rules) then has (search rules) then search rules then tt)

use mathlib.Core.Path.{◌≡◌, ◌∙◌}
use mathlib.Core.Bool.{true}
use borrow.Author.Rules.{rules}
use Rattle.refusals.specs.Numbers.{status_of}
use Rattle.refusals.proofs.Refusals.{has, ◌then◌, failed}
use Rattle.forward.specs.Canonical.{up_to}
use Rattle.fdct.proofs.Small.{level-12bit}
use Rattle.fdct.proofs.twelve_bit.fdct_quantize_12bit.Goals as goal

pub returns-in_err-unless-clause-value : goal.returns-in_err-unless-clause-value
returns-in_err-unless-clause-value c =
    let three : status_of c.from_residual-in_err-unless.result ≡ 3 = search rules in
    three ∙ failed 2 _ (has (search rules) then has (search rules) then search rules then tt)

pub write_centred-requires-clause-level : goal.write_centred-requires-clause-level
write_centred-requires-clause-level c =
    let t : up_to 4095 c.in_ok-block.block.now ≡ true = search rules in
    level-12bit _ t

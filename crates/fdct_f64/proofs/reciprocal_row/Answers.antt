use Rattle.std.specs.Prelude.{◌+◌, ◌*◌, get_or}
use borrow.Author.Rules.{rules}
use Rattle.lists.proofs.Made.{made}
use Rattle.guarded_quantizer.proofs.Divisors.{made_one}
use Rattle.fdct_f64.proofs.reciprocal_row.Goals as goal

pub returns : goal.returns
returns c =
    made _ _ _ _ (λ i b y q k. (search rules, let e = made_one (get_or c.args.quant.now (8 * c.args.v + i) 0) i c.args.v c.aan_scale-scale.ensures in search rules)) c.from_fn.ensures.items

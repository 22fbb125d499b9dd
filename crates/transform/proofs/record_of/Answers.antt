use mathlib.Core.Path.{◌≡◌, sym, ◌∙◌}
use mathlib.Core.Bool.{true, false}
use borrow.Author.Rules.{rules}
use Rattle.guarded_quantizer.specs.Record.{record_of}
use Rattle.guarded_quantizer.specs.Answer.{coefficients_of}
use Rattle.guarded_quantizer.proofs.Record.{record-tab}
use Rattle.guarded_quantizer.proofs.Answer.{by-constant}
use Rattle.transform.proofs.record_of.Goals as goal

pub constant_record-requires : goal.constant_record-requires
constant_record-requires c = sym c.all_equal.ensures ∙ c.if-all_equal.true

pub returns-then-all_equal : goal.returns-then-all_equal
returns-then-all_equal c =
    let a = c.in-Ok-Ok-Ok in
    let made : c.constant_record.result ≡ record_of a.quant.now (coefficients_of a.block.now a.quant.now a.reciprocals.now)
    = c.constant_record.ensures ∙ by-constant _ _ _ {t = true} (sym c.if-all_equal.true ∙ c.all_equal.ensures) in search rules

pub returns : goal.returns
returns c =
    let a = c.in-Ok-Ok-Ok in
    let made : c.from_natural_order.result ≡ record_of a.quant.now (coefficients_of a.block.now a.quant.now a.reciprocals.now)
    = record-tab _ _ c.guarded_coefficients-coefficients.ensures c.from_natural_order.ensures
    ∙ by-constant _ _ _ {t = false} (sym c.if-all_equal.false ∙ c.all_equal.ensures) in search rules

use mathlib.Core.Path.{◌≡◌, refl, sym, ap, ◌∙◌}
use mathlib.Core.List.{List, [], ◌∷◌, ◌++◌}
use Prim.Native.Nat.{ℕ}
use lib.Dec.{eqb}
use lib.Ieee.{Float}
use lib.ListN.{length}
use Rattle.refusals.specs.Refusals.{◌unless◌, status}
use Rattle.refusals.proofs.Refusals.{wrote}
use Rattle.refusals.proofs.Numbers.{stopped, went-on}
use Rattle.guarded_quantizer.specs.declared.QuantizedBlock.{QuantizedBlock}
use Rattle.guarded_quantizer.specs.Record.{record_of}
use Rattle.guarded_quantizer.specs.Answer.{coefficients_of, guarded_tests, zero_record, guarded_answer}
use Rattle.jpeg_block.specs.Places.{record_tests, record_place_tests}
use Rattle.jpeg_block.proofs.Places.{first-passed}
use Rattle.jpeg_block.proofs.guarded.jpeg_block_fdct_quantize_guarded.Goals as goal

made : (block quant : List ℕ) (rs : List Float) {r : QuantizedBlock} → 0 ≡ status (guarded_tests block quant ++ 2 unless eqb (length rs) 64 ∷ []) → r ≡ record_of quant (coefficients_of block quant rs) →
    r ≡ (guarded_answer block quant rs).value
unfolding guarded_answer
made block quant rs passes e = wrote _ zero_record (sym (first-passed (guarded_tests block quant) (2 unless eqb (length rs) 64 ∷ []) tt passes)) e

pub returns-clause-dc_after : goal.returns-clause-dc_after
returns-clause-dc_after c = wrote _ _ refl (c.put_parts.ensures.dc_after ∙ ap (λ (r : QuantizedBlock). r.dc ∷ []) (made _ _ _ c.in_default.ensures c.record_of.ensures))

pub returns-clause-ac_after : goal.returns-clause-ac_after
returns-clause-ac_after c = wrote _ _ refl (c.put_parts.ensures.ac_after ∙ ap (λ (r : QuantizedBlock). r.ac_coefficients) (made _ _ _ c.in_default.ensures c.record_of.ensures))

pub returns-clause-nonzero_ac_after : goal.returns-clause-nonzero_ac_after
returns-clause-nonzero_ac_after c = wrote _ _ refl (c.put_parts.ensures.nonzero_ac_after ∙ ap (λ (r : QuantizedBlock). r.nonzero_ac ∷ []) (made _ _ _ c.in_default.ensures c.record_of.ensures))

pub returns-clause-record_divisors_after : goal.returns-clause-record_divisors_after
returns-clause-record_divisors_after c = wrote _ _ refl (c.put_parts.ensures.record_divisors_after ∙ ap (λ (r : QuantizedBlock). r.divisors) (made _ _ _ c.in_default.ensures c.record_of.ensures))

pub returns-clause-value : goal.returns-clause-value
unfolding record_tests
returns-clause-value c =
    went-on (guarded_tests c.args.block.now c.args.quant.now ++ 2 unless eqb (length c.args.divisors.now) 64 ∷ []) _ tt c.in_default.ensures c.in_default-record_room.ensures

pub returns-in-Err-record_room-clause-value : goal.returns-in-Err-record_room-clause-value
unfolding record_tests
returns-in-Err-record_room-clause-value c =
    went-on (guarded_tests c.args.block.now c.args.quant.now ++ 2 unless eqb (length c.args.divisors.now) 64 ∷ []) _ tt c.in_default.ensures (c.number-in-Err-record_room.ensures ∙ c.in-Err-record_room.ensures)

pub returns-in-Err-clause-value : goal.returns-in-Err-clause-value
unfolding record_tests
returns-in-Err-clause-value c =
    stopped (guarded_tests c.args.block.now c.args.quant.now ++ 2 unless eqb (length c.args.divisors.now) 64 ∷ []) (record_place_tests (length c.args.dc.now) (length c.args.ac.now) (length c.args.nonzero_ac.now) (length c.args.record_divisors.now)) tt _ c.number.ensures c.in-Err.ensures

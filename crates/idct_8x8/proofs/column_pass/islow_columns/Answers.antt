use mathlib.Core.Path.{refl, ap, subst, ◌∙◌}
use native.Mathlib.Omega.{arith}
use borrow.Author.Count.{below_none, below_more}
use mir.Syntax.{w32}
use Rattle.integers.specs.Fits16.{Fits16}
use Rattle.lists.specs.Every.{Every}
use Rattle.lists.proofs.Tab.{none, next, filled}
use Rattle.gains.specs.Gains.{gains}
use Rattle.passes.specs.Passes.{pass}
use Rattle.passes.proofs.Steps.{passed}
use Rattle.block.specs.Block.{columns}
use Rattle.idct_8x8.proofs.column_pass.islow_columns.Goals as goal

pub loop-u-init : goal.loop-u-init
loop-u-init g c = record { value = none _ 8 _ refl; fit = below_none _ }

pub loop-u-preserved : goal.loop-u-preserved
loop-u-preserved g c =
    let column = c.load_column.ensures.value in
    record {
      value = next c.loop-u.invariant.value (omega arith) (passed w32 gains _ _ _ c.islow_1d_direct.ensures c.descale_8.ensures ∙ ap (pass w32 gains c.args.shift) column);
      fit = below_more _ _ c.loop-u.invariant.fit (subst (Every Fits16) column c.load_column.ensures.every);
    }

pub returns : goal.returns
unfolding columns
returns g c = record { value = filled c.loop-u.invariant.value (omega arith); by_index = λ u b. c.loop-u.invariant.fit u (omega arith) }

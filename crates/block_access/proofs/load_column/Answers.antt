use Prim.Native.Nat.{◌+◌, ◌*◌}
use mathlib.Core.Path.{sym, subst, ap, ◌∙◌}
use native.Mathlib.Omega.{arith}
use lib.IntN.{pos}
use mir.Syntax.{w32}
use mir.ValLaws.{to_z-of_z}
use Rattle.lists.proofs.Every.{every-same, every_set}
use Rattle.block.proofs.Load.{load-none, load-more, load-all}
use Rattle.block_access.proofs.load_column.Goals as goal

pub loop-v-init : goal.loop-v-init
loop-v-init g c = (load-none, every-same g.T.Number.Fits 8 (pos 0) g.met.T.Number.fits_zero)

pub loop-v-preserved : goal.loop-v-preserved
loop-v-preserved g c =
    let held = to_z-of_z w32 c.widen.result (record { sfits = c.widen.type_inv }) in
    let read = g.met.T.Number.values_at c.args.input.now (8 * c.loop-v.v + c.args.u) c.index-input-v.result (omega arith) in (
      load-more c.loop-v.invariant.0 (omega arith) (omega arith) (held ∙ c.widen.ensures.value ∙ ap g.T.Number.value c.index-input-v.is ∙ sym read),
      every_set c.loop-v.invariant.1 c.loop-v.v _ (subst g.T.Number.Fits (sym held) c.widen.ensures.fits),
    )

pub returns : goal.returns
returns g c =
    record { value = load-all c.loop-v.invariant.0 (omega arith) (omega arith); every = c.loop-v.invariant.1 }

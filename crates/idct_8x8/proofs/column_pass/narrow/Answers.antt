use native.Mathlib.Omega.{arith}
use lib.IntN.{pos}
use Rattle.integers.specs.Fits16.{Fits16}
use Rattle.integers.proofs.Fits16.{fits16-zero, fits16-local}
use Rattle.lists.proofs.Every.{every-below}
use Rattle.block.proofs.Load.{first-none, first-more, first-whole}
use Rattle.idct_8x8.proofs.Fit.{cut}
use Rattle.idct_8x8.proofs.column_pass.narrow.Goals as goal

pub loop-i-init : goal.loop-i-init
loop-i-init g c = first-none c.args.numbers.now

pub to_i16-requires : goal.to_i16-requires
to_i16-requires g c = fits16-local (every-below Fits16 c.args.numbers.now _ c.requires.every (pos 0) fits16-zero c.loop-i.i (omega arith))

pub loop-i-preserved : goal.loop-i-preserved
loop-i-preserved g c =
    first-more c.args.numbers.now c.loop-i.invariant (omega arith) (cut (every-below Fits16 c.args.numbers.now _ c.requires.every (pos 0) fits16-zero c.loop-i.i (omega arith)) c.to_i16.ensures)

pub returns : goal.returns
returns g c = first-whole c.args.numbers.now g.row.ROWS c.loop-i.invariant (omega arith)

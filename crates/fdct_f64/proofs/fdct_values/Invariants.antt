use Rattle.std.specs.Prelude.{◌+◌, ◌*◌}
use lib.Ieee.{nan}
use Rattle.guarded_quantizer.specs.Values.{fdct_value}
use Rattle.fdct_f64.proofs.ByColumns.{ByColumns}
use Rattle.fdct_f64.proofs.fdct_values.Given as goal

abbrev pub invariant-loop-v : goal.invariant-loop-v
invariant-loop-v l = ByColumns nan (fdct_value l.block) (8 * l.u + l.v) l.values

abbrev pub invariant-loop-u : goal.invariant-loop-u
invariant-loop-u l = ByColumns nan (fdct_value l.block) (8 * l.u) l.values

use mathlib.Core.Path.{refl}
use Rattle.lists.specs.Tab.{tab}
use Rattle.basis.specs.Cosine.{cosines}
use Rattle.basis.specs.Basis.{reduced, cosine_of, negated, signed, factor, entry, basis_table}
use Rattle.basis.proofs.table.Goals as goal

pub returns : goal.returns
unfolding tab cosines reduced cosine_of negated signed factor entry basis_table
returns c = refl

use Rattle.std.proofs.Common.{ap, ◌∙◌, ◌+◌, ◌*◌, pos, w32, rules}
use lib.ListN.{get_or}
use mir.ValLaws.{to_z-of_z}
use Rattle.lists.proofs.Tab.{none, next, filled}
use Rattle.basis.proofs.basis_row.Goals as goal

pub loop-k-init : goal.loop-k-init
loop-k-init c = none _ 16 _ (search rules)

pub loop-k-preserved : goal.loop-k-preserved
loop-k-preserved c =
    let entry = to_z-of_z w32 (get_or c.table-table.result.now (16 * c.args.n + c.loop-k.k) (pos 0)) (search rules) in
    next c.loop-k.invariant c.loop-k-test.true (entry ∙ ap (λ t. get_or t (16 * c.args.n + c.loop-k.k) (pos 0)) c.table-table.ensures)

pub returns : goal.returns
returns c = filled c.loop-k.invariant c.loop-k-test.false

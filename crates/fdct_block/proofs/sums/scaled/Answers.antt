use Prim.Native.Nat.{◌+◌, ◌*◌}
use mathlib.Core.Path.{ap, ◌∙◌}
use mathlib.Core.List.{List}
use lib.ListN.{get_or}
use lib.IntN.{ℤ, pos}
use Rattle.lists.proofs.Tab.{get_d-tab}
use Rattle.basis.specs.Basis.{basis_table}
use Rattle.basis.proofs.Rule.{table-entry}
use Rattle.fdct_block.proofs.Terms.{by_entries, read-sum}
use Rattle.fdct_block.proofs.sums.scaled.Goals as goal

pub returns : goal.returns
returns c =
    let f : List ℤ = c.args.f.now in
    let n = c.args.n in let h = c.requires.n_bound in
    let all = read-sum f c.requires.folded n h (by_entries f c.requires.folded n h c.row_sum.ensures
    (λ k b. ap (λ (t : List ℤ). get_or t k (pos 0)) c.basis_row.ensures
    ∙ get_d-tab 16 (λ j. get_or basis_table (16 * n + j) (pos 0)) (pos 0) k b ∙ table-entry n h k b)) in
    record { value = all.0; size = all.1 }

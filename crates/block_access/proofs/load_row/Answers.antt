use Prim.Native.Nat.{ℕ}
use mathlib.Core.List.{[], ◌∷◌}
use borrow.Author.Rules.{rules}
use lib.ListN.{get_or}
use Rattle.std.proofs.lemmas.List.{get_or_default}
use Rattle.lists.specs.Tab.{tab}
use Rattle.block.specs.Block.{row_at}
use Rattle.block_access.proofs.load_row.Goals as goal

pub returns : goal.returns
unfolding row_at tab
returns g c = λ d.
    let at = λ (k : ℕ) (x : g.row.T.Denot). get_or_default (get_or c.args.w.now k []) c.args.y x d in
    λ i. at 0 c.index-w-0.result (search rules) i ∷ at 1 c.index-w-1.result (search rules) i ∷ at 2 c.index-w-2.result (search rules) i ∷ at 3 c.index-w-3.result (search rules) i ∷ at 4 c.index-w-4.result (search rules) i ∷ at 5 c.index-w-5.result (search rules) i ∷ at 6 c.index-w-6.result (search rules) i ∷ at 7 c.index-w-7.result (search rules) i ∷ []

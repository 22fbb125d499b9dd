use mathlib.Core.Path.{◌≡◌, ap, ◌∙◌}
use mathlib.Core.List.{List}
use Prim.Native.Nat.{ℕ, ◌+◌, ◌-◌, ◌*◌, ◌<◌}
use native.Mathlib.Omega.{arith}
use lib.ListN.{get_or}
use Rattle.fewest.specs.Blocks.{table_of}
use Rattle.fewest.proofs.Tables.{table_same}
use Rattle.fewest.proofs.totals.is_repeated.Goals as goal

-- as the code reads them
repeated : (tables : List ℕ) (p : ℕ) → 0 < p → ((k : ℕ) → k < 64 → get_or tables (64 * p + k) 0 ≡ get_or tables (64 * p - 64 + k) 0) → table_of tables p ≡ table_of tables (p - 1)
repeated tables p s h =
    table_same tables p (p - 1) (λ n b. let g : 64 * p - 64 + n ≡ 64 * (p - 1) + n = omega arith in h n b ∙ ap (λ (i : ℕ). get_or tables i 0) g)

pub returns : goal.returns
returns c e = (omega arith, repeated c.args.tables.now c.args.p (omega arith) (λ k b. c.loop-n.invariant k (omega arith)))

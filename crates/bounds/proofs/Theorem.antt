-- Demand 3, both halves, over the definitions that the entries' contracts cite.
-- Assumes nothing.
use mathlib.Core.List.{List}
use Prim.Native.Nat.{ℕ}
use Rattle.forward.specs.Canonical.{Bytes}
use Rattle.bounds.specs.Demand3.{Demand3}
use Rattle.bounds.proofs.Alike.{alike}
use Rattle.bounds.proofs.Near.{products-fit, near}

pub demand-3 : (quant : List ℕ) → Bytes quant → Demand3 quant
demand-3 quant q =
    (λ a b ha hb e. alike quant a b q.most e, λ a ha. (products-fit quant a q.most ha.most, near quant a q.most ha.most))

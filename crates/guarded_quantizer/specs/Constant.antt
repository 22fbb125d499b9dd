-- Document 01, "The guarded quantizer": a block of 64 equal samples.
use Rattle.std.specs.Prelude.{ℕ, Bool, cond, List, ℤ, pos, ◌==◌, nat_eq, slice_index}
use Rattle.lists.specs.Below.{below}
use Rattle.forward.specs.Canonical.{canonical}

-- "A block of 64 equal samples"
unfoldable pub constant : List ℕ → Bool
constant block = below 64 (λ n. nat_eq (slice_index block n) (slice_index block 0))

-- "gives the canonical DC and zeros"
unfoldable pub only_dc : List ℕ → List ℕ → ℕ → ℤ
only_dc block quant n = cond (n == 0) (canonical block quant 0) (pos 0)

-- The divisors of document 02, card 6. Assumes nothing.
use mathlib.Core.Path.{◌≡◌, ◌∙◌}
use mathlib.Core.List.{List, map}
use Prim.Native.Nat.{ℕ, ◌≤◌, ◌<◌}
use native.Mathlib.Nat.{mul-le-mul_left}
use native.Mathlib.Omega.{arith}
use lib.ListN.{get_or}
use Rattle.lists.proofs.Tab.{length-tab, get_d-tab, get_d-every, tab-ext, map-get_d}
use Rattle.quantize.specs.Quantize.{divisor_of}
use Rattle.forward.specs.Canonical.{Bytes}
use Rattle.percent.specs.Percent.{percent_divisor, percent_table}

-- "held to 1..255"
pub divisor-held : (base p : ℕ) → (1 ≤ percent_divisor base p) × (percent_divisor base p ≤ 255)
unfolding percent_divisor
divisor-held base p = omega arith

-- percent 100 leaves a quantizer, but 0 becomes 1
pub divisor-100 : (base : ℕ) → base ≤ 255 → percent_divisor base 100 ≡ divisor_of base
unfolding percent_divisor divisor_of
divisor-100 base h = omega arith

-- "a larger p never makes a divisor smaller"
pub divisor-grows : (base p q : ℕ) → p ≤ q → percent_divisor base p ≤ percent_divisor base q
unfolding percent_divisor
divisor-grows base p q h = omega (arith, mul-le-mul_left base h)

-- ---- the table

pub table_at : (base : List ℕ) (p n : ℕ) → n < 64 → get_or (percent_table base p) n 0 ≡ percent_divisor (get_or base n 0) p
unfolding percent_table
table_at base p n h = get_d-tab 64 (λ k. percent_divisor (get_or base k 0) p) 0 n h

-- its quantizers are of 8 bits and none is 0, so each is its own divisor
pub table-bytes : (base : List ℕ) (p : ℕ) → Bytes (percent_table base p)
unfolding percent_table
table-bytes base p =
    record {
      long = length-tab 64 _;
      most = get_d-every (λ n. n ≤ 255) 64 _ 0 (omega arith) (λ i b. (divisor-held (get_or base i 0) p).1);
    }

pub table-divisor : (base : List ℕ) (p n : ℕ) → n < 64 → divisor_of (get_or (percent_table base p) n 0) ≡ percent_divisor (get_or base n 0) p
unfolding divisor_of
table-divisor base p n h = omega (arith, table_at base p n h, divisor-held (get_or base n 0) p)

pub table-grows : (base : List ℕ) (p q n : ℕ) → p ≤ q → n < 64 → get_or (percent_table base p) n 0 ≤ get_or (percent_table base q) n 0
table-grows base p q n h b = omega (arith, table_at base p n b, table_at base q n b, divisor-grows (get_or base n 0) p q h)

-- percent 100 gives the base table, with 0 as 1
pub table-100 : (base : List ℕ) → Bytes base → percent_table base 100 ≡ map divisor_of base
unfolding percent_table
table-100 base h =
    tab-ext 64 _ _ (λ i b. divisor-100 (get_or base i 0) (h.most i)) ∙ map-get_d divisor_of 0 base 64 h.long

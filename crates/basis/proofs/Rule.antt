-- The cosines are the square roots that document 01 names, and the table's entries, place for place, are made of them.
-- Assumes nothing.
use mathlib.Core.Path.{◌≡◌, refl, ◌∙◌}
use Prim.Native.Nat.{ℕ, ◌+◌, ◌*◌, ◌/◌, ◌%◌, ◌<◌}
use native.Mathlib.Omega.{arith}
use lib.Dec.{lit<, lit≤}
use lib.ListN.{get_or}
use lib.IntN.{pos}
use Rattle.lists.proofs.Tab.{get_d-tab}
use Rattle.basis.specs.Cosine.{Cosines, cosines}
use Rattle.basis.specs.Basis.{entry, basis_table}

pub cosines-are : Cosines cosines
unfolding cosines
cosines-are =
    record {
      s = 6521908912666391106;
      a = 8521284645587064994;
      b = 3529631669043774883;
      r1 = 9046147529429926058;
      r3 = 7668953571605777420;
      r5 = 5124230951741890994;
      r7 = 1799390620744551095;
      s-is = record { below = lit≤ tt; above = lit< tt };
      a-is = record { below = lit≤ tt; above = lit< tt };
      b-is = record { below = lit≤ tt; above = lit< tt };
      r1-is = record { below = lit≤ tt; above = lit< tt };
      r3-is = record { below = lit≤ tt; above = lit< tt };
      r5-is = record { below = lit≤ tt; above = lit< tt };
      r7-is = record { below = lit≤ tt; above = lit< tt };
      are = refl;
    }

-- the rule, carried to each entry: `basis_table` gives the table (proofs/basis_table, where it is computed)
pub table-entry : (n : ℕ) → n < 64 → (k : ℕ) → k < 16 → get_or basis_table (16 * n + k) (pos 0) ≡ entry n (k / 4) (k % 4)
unfolding basis_table
table-entry n h k b =
    let e : (16 * n + k) / 16 ≡ n = omega arith in
    let r : (16 * n + k) / 4 % 4 ≡ k / 4 = omega arith in
    let c : (16 * n + k) % 4 ≡ k % 4 = omega arith in
    get_d-tab 1024 (λ i. entry (i / 16) (i / 4 % 4) (i % 4)) (pos 0) (16 * n + k) (omega arith) ∙ (λ i. entry (e i) (r i) (c i))

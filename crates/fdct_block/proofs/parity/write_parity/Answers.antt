use mathlib.Core.Path.{◌≡◌, ap, ◌∙◌}
use mathlib.Core.List.{List}
use Prim.Native.Nat.{ℕ}
use native.Mathlib.Omega.{arith}
use lib.ListN.{set, get_or}
use lib.IntN.{ℤ}
use Rattle.lists.proofs.Tab.{begin, ◌▸◌}
use Rattle.quantize.specs.Quantize.{coefficient}
use Rattle.forward.specs.Parity.{fold_sum}
use Rattle.forward.proofs.Parity.{place_of, parity-written}
use Rattle.fdct_block.proofs.parity.write_parity.Goals as goal

-- a call of `write_at` at the k-th place of the parity
at : (f : List ℤ) (quant : List ℕ) (u v k : ℕ) (out new : List ℤ) (n : ℕ) → n ≡ place_of u v k → new ≡ set out n (coefficient (fold_sum f n) (get_or quant n 0)) →
    new ≡ set out (place_of u v k) (coefficient (fold_sum f (place_of u v k)) (get_or quant (place_of u v k) 0))
at f quant u v k out new n e h = h ∙ ap (λ (m : ℕ). set out m (coefficient (fold_sum f m) (get_or quant m 0))) e

pub returns : goal.returns
returns g c =
    let put = at c.fold.new.quadrant c.args.quant.now g.row.U g.row.V in
    record {
      quadrant_after = c.fold.ensures.quadrant_after;
      out_after = parity-written _ _ g.row.U g.row.V c.requires.parity.0 c.requires.parity.1 c.fold.ensures.quadrant_after _
          (begin ▸ put 0 _ _ _ (omega arith) c.write_at.ensures.out_after ▸ put 1 _ _ _ (omega arith) c.write_at-2.ensures.out_after ▸ put 2 _ _ _ (omega arith) c.write_at-3.ensures.out_after
          ▸ put 3 _ _ _ (omega arith) c.write_at-4.ensures.out_after ▸ put 4 _ _ _ (omega arith) c.write_at-5.ensures.out_after ▸ put 5 _ _ _ (omega arith) c.write_at-6.ensures.out_after
          ▸ put 6 _ _ _ (omega arith) c.write_at-7.ensures.out_after ▸ put 7 _ _ _ (omega arith) c.write_at-8.ensures.out_after ▸ put 8 _ _ _ (omega arith) c.write_at-9.ensures.out_after
          ▸ put 9 _ _ _ (omega arith) c.write_at-10.ensures.out_after ▸ put 10 _ _ _ (omega arith) c.write_at-11.ensures.out_after ▸ put 11 _ _ _ (omega arith) c.write_at-12.ensures.out_after
          ▸ put 12 _ _ _ (omega arith) c.write_at-13.ensures.out_after ▸ put 13 _ _ _ (omega arith) c.write_at-14.ensures.out_after ▸ put 14 _ _ _ (omega arith) c.write_at-15.ensures.out_after
          ▸ put 15 _ _ _ (omega arith) c.write_at-16.ensures.out_after)
          c.requires.out_len;
    }

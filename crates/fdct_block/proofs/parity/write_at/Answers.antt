use mathlib.Core.Path.{◌≡◌, ap, ◌∙◌}
use Prim.Native.Nat.{ℕ}
use mathlib.Core.List.{List}
use lib.ListN.{set, length-set}
use lib.IntN.{ℤ}
use borrow.Author.Rules.{rules}
use mir.Syntax.{w16}
use mir.Val.{to_z, of_z}
use Rattle.fdct_block.specs.Ready.{Ready}
use Rattle.fdct_block.proofs.parity.write_at.Goals as goal

-- one place written
written : {f out : List ℤ} → Ready f out → (n : ℕ) {x y : ℤ} → x ≡ y → (set out n x ≡ set out n y) × Ready f (set out n x)
written {out = out} h n {x} e = (ap (set out n) e, record { small = h.small; long = length-set out n x ∙ h.long })

pub returns : goal.returns
returns c =
    let e : to_z w16 (of_z w16 c.quantized.result) ≡ c.quantized.result = search rules in
    let all = written c.requires.ready c.args.n (e ∙ c.quantized.ensures.value) in
    record { out_after = all.0; ready_2 = all.1 }

use Prim.Native.Nat.{◌≤◌}
use mathlib.Core.Path.{◌≡◌, sym, ap, ◌∙◌}
use mathlib.Core.List.{List, [], ◌∷◌, map}
use native.Mathlib.Omega.{arith}
use lib.ListN.{get_or, length-map}
use lib.IntN.{ℤ, pos, ◌+ℤ◌}
use mir.Syntax.{w32}
use mir.Val.{SFits, to_z, of_z}
use mir.ValLaws.{to_z-of_z}
use Rattle.integers.specs.Wrap.{wrap}
use Rattle.integers.proofs.Wrap.{wrap-read}
use Rattle.lists.specs.Tab.{tab}
use Rattle.lists.proofs.Tab.{tab-get_d}
use Rattle.clamping.specs.Clamping.{sample_u8}
use Rattle.clamping.specs.Counts.{counted, tally_one}
use Rattle.clamping.proofs.AsIs.{AsIs, as_is, four-bits}
use Rattle.idct_reduced.proofs.Places.{all_set, all-pasted}
use Rattle.idct_reduced.proofs.two.put_2.Goals as goal

-- a sum, where the test says that it is a sample as it is
one : (v : ℤ) → SFits w32 v → {s : ℤ} → s ≡ wrap w32 (to_z w32 (of_z w32 v) +ℤ pos 128) → of_z w32 s ≤ 255 → AsIs v (to_z w32 (of_z w32 s))
one v f {s} e h =
    let sum = wrap-read w32 (v +ℤ pos 128) (e ∙ ap (λ (z : ℤ). wrap w32 (z +ℤ pos 128)) (to_z-of_z w32 v f)) in
    as_is v sum (rw (sum ∙ sym (e ∙ ap (λ (z : ℤ). wrap w32 (z +ℤ pos 128)) (to_z-of_z w32 v f))) h)

module _ (c : goal.Then-is_sample) where
  abbrev q : List ℤ
  q = c.args.q

  bits : (of_z w32 c.add-a.result ≤ 255) × ((of_z w32 c.add-b.result ≤ 255) × ((of_z w32 c.add-c.result ≤ 255) × (of_z w32 c.add-d.result ≤ 255)))
  bits = four-bits _ _ _ _ c.is_sample.ensures c.if-is_sample.true

  as-0 : AsIs (get_or q 0 (pos 0)) (to_z w32 (of_z w32 c.add-a.result))
  as-0 = one _ (record { sfits = c.add-arg-1.given }) c.add-a.ensures bits.0

  as-1 : AsIs (get_or q 1 (pos 0)) (to_z w32 (of_z w32 c.add-b.result))
  as-1 = one _ (record { sfits = c.add-arg-2-1.given }) c.add-b.ensures bits.1.0

  as-2 : AsIs (get_or q 2 (pos 0)) (to_z w32 (of_z w32 c.add-c.result))
  as-2 = one _ (record { sfits = c.add-arg-3-1.given }) c.add-c.ensures bits.1.1.0

  as-3 : AsIs (get_or q 3 (pos 0)) (to_z w32 (of_z w32 c.add-d.result))
  as-3 = one _ (record { sfits = c.add-arg-4-1.given }) c.add-d.ensures bits.1.1.1

pub returns-then-is_sample : goal.returns-then-is_sample
unfolding counted tab
returns-then-is_sample c =
    let four = tab-get_d (pos 0) (q c) 4 c.well_formed.1.0.1.0.1 in record { value = omega (arith, (as-0 c).tally, (as-1 c).tally, (as-2 c).tally, (as-3 c).tally) ∙ ap (counted tally_one) four; output_after = all_set c.args.output.now _ _ _ _ c.requires ∙ (λ i. (as-0 c).sample i ∷ (as-1 c).sample i ∷ (as-2 c).sample i ∷ (as-3 c).sample i ∷ []) ∙ ap (map sample_u8) four }

pub returns : goal.returns
returns c =
    let long = c.well_formed.1.0.1.0.1 in record { value = c.tally_4.ensures; output_after = c.put_row.ensures ∙ all-pasted 0 c.args.output.now (map sample_u8 c.args.q) c.requires (length-map c.args.q sample_u8 ∙ long) long }

pub overflow_cast-output : goal.overflow_cast-output
overflow_cast-output c = ((as-0 c).least, record { fits = omega (arith, (as-0 c).most) })

pub overflow_cast-output-then-is_sample : goal.overflow_cast-output-then-is_sample
overflow_cast-output-then-is_sample c = ((as-1 c).least, record { fits = omega (arith, (as-1 c).most) })

pub overflow_cast-output-then-is_sample-2 : goal.overflow_cast-output-then-is_sample-2
overflow_cast-output-then-is_sample-2 c = ((as-2 c).least, record { fits = omega (arith, (as-2 c).most) })

pub overflow_cast-output-then-is_sample-3 : goal.overflow_cast-output-then-is_sample-3
overflow_cast-output-then-is_sample-3 c = ((as-3 c).least, record { fits = omega (arith, (as-3 c).most) })

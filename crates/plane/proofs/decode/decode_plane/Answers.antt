use Prim.Native.Nat.{ℕ, ◌*◌, ◌≤◌}
use mathlib.Core.Path.{◌≡◌, sym, ◌∙◌}
use native.Mathlib.Nat.{mul-zero}
use native.Mathlib.Omega.{arith}
use Rattle.plane.proofs.Scales.{cropping}
use Rattle.plane.proofs.Placing.{blocks-same}
use Rattle.plane.proofs.Counts.{sums_none, sums_same, sums-more, sums-few, sums-all}
use Rattle.plane.proofs.Decoding.{BlockRoom, block_room, decoded-none, begins, decoded-more, decoded-all}
use Rattle.plane.proofs.decode.decode_plane.Goals as goal

pub loop-y-init : goal.loop-y-init
loop-y-init c =
    let none = sym (mul-zero c.blocks_of-across.result) in
    (blocks-same _ _ _ _ _ (decoded-none (cropping c.args.scale) c.requires c.cropped-wide.ensures.value c.cropped-high.ensures.value) none, sums_same (sums_none _ _ _) none)

pub put_decoded-counts-requires-clause-begins : goal.put_decoded-counts-requires-clause-begins
put_decoded-counts-requires-clause-begins c =
    begins (cropping c.args.scale) c.requires c.cropped-wide.ensures.value c.cropped-high.ensures.value c.blocks_of-across.ensures.value c.loop-x-test.true (omega (arith, c.blocks_of-down.ensures.value)) c.loop-x.invariant.0

pub overflow_add-raised : goal.overflow_add-raised
overflow_add-raised c =
    let room : BlockRoom c.args.stored.coefficients.now c.blocks_of-across.result c.loop-x.x c.loop-y.y = block_room (cropping c.args.scale) c.requires c.cropped-wide.ensures.value c.cropped-high.ensures.value c.blocks_of-across.ensures.value c.loop-x-test.true (omega (arith, c.blocks_of-down.ensures.value)) in
    record { fits = omega (arith, (sums-few (cropping c.args.scale) (sums-more c.loop-x.invariant.1 room.read c.put_decoded-counts.ensures.value)).0, room) }

pub overflow_add-lowered : goal.overflow_add-lowered
overflow_add-lowered c =
    let room : BlockRoom c.args.stored.coefficients.now c.blocks_of-across.result c.loop-x.x c.loop-y.y = block_room (cropping c.args.scale) c.requires c.cropped-wide.ensures.value c.cropped-high.ensures.value c.blocks_of-across.ensures.value c.loop-x-test.true (omega (arith, c.blocks_of-down.ensures.value)) in
    record { fits = omega (arith, (sums-few (cropping c.args.scale) (sums-more c.loop-x.invariant.1 room.read c.put_decoded-counts.ensures.value)).1, room) }

pub loop-x-preserved : goal.loop-x-preserved
loop-x-preserved c =
    let room : BlockRoom c.args.stored.coefficients.now c.blocks_of-across.result c.loop-x.x c.loop-y.y = block_room (cropping c.args.scale) c.requires c.cropped-wide.ensures.value c.cropped-high.ensures.value c.blocks_of-across.ensures.value c.loop-x-test.true (omega (arith, c.blocks_of-down.ensures.value)) in
    let placed = c.put_decoded-counts.ensures.placed in (
      blocks-same _ _ _ _ _ (decoded-more (cropping c.args.scale) c.requires c.cropped-wide.ensures.value c.cropped-high.ensures.value c.blocks_of-across.ensures.value c.loop-x-test.true (omega (arith, c.blocks_of-down.ensures.value)) c.loop-x.invariant.0 placed) (omega arith),
      sums_same (sums-more c.loop-x.invariant.1 room.read c.put_decoded-counts.ensures.value) (omega arith),
    )

-- all rows are written
all-rows : {a d y n m : ℕ} → a ≡ n → d ≡ m → y ≤ d → d ≤ y → a * y ≡ n * m
all-rows {a} {d} {y} {n} {m} e f u l = let t : y ≡ d = omega arith in λ i. e i * (t ∙ f) i

pub returns-clause-value : goal.returns-clause-value
returns-clause-value c = sums-all _ _ c.loop-y.invariant.1 (all-rows c.blocks_of-across.ensures.value c.blocks_of-down.ensures.value (omega arith) (omega arith))

pub returns-clause-out_after : goal.returns-clause-out_after
returns-clause-out_after c =
    let all = all-rows {y = c.loop-y.y} c.blocks_of-across.ensures.value c.blocks_of-down.ensures.value (omega arith) (omega arith) in
    decoded-all (cropping c.args.scale) c.requires c.cropped-wide.ensures.value c.cropped-high.ensures.value c.loop-y.invariant.0 (omega (arith, all))

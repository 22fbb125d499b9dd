use Rattle.std.proofs.Common.{[], ◌∷◌, pos, rules}
use Rattle.integers.specs.Linear.{transform}
use Rattle.integers.proofs.Linear.{lin-at, lin-add, lin-sub, lin-mul2, lin-sum, lin-difference}
use Rattle.gains.specs.Gains.{neg, mirror, mirrored, upper, gains}
use Rattle.islow.proofs.direct.islow_1d_direct.Goals as goal

pub returns : goal.returns
unfolding transform mirror mirrored upper gains
returns g c =
    let at = lin-at {w = g.T.Wrapping.width} g.T.Wrapping.value c.args.p in
    let p0 = at 0 c.index-p-0.result (search rules) in
    let p1 = at 1 c.index-p-1.result (search rules) in
    let p2 = at 2 c.index-p-2.result (search rules) in
    let p3 = at 3 c.index-p-3.result (search rules) in
    let p4 = at 4 c.index-p-4.result (search rules) in
    let p5 = at 5 c.index-p-5.result (search rules) in
    let p6 = at 6 c.index-p-6.result (search rules) in
    let p7 = at 7 c.index-p-7.result (search rules) in
    let tmp0 = lin-mul2 (pos 8192) (pos 8192) p0 p4 c.mul2-tmp0.ensures in
    let tmp1 = lin-mul2 (pos 8192) (neg 8192) p0 p4 c.mul2-tmp1.ensures in
    let tmp2 = lin-mul2 (pos 4433) (neg 10704) p2 p6 c.mul2-tmp2.ensures in
    let tmp3 = lin-mul2 (pos 10703) (pos 4433) p2 p6 c.mul2-tmp3.ensures in
    let tmp10 = lin-add tmp0 tmp3 c.add-tmp10.ensures in
    let tmp13 = lin-sub tmp0 tmp3 c.sub-tmp13.ensures in
    let tmp11 = lin-add tmp1 tmp2 c.add-tmp11.ensures in
    let tmp12 = lin-sub tmp1 tmp2 c.sub-tmp12.ensures in
    let odd0 = lin-add (lin-mul2 (pos 11363) (pos 9633) p1 p3 c.mul2.ensures) (lin-mul2 (pos 6437) (pos 2260) p5 p7 c.mul2-2.ensures) c.add-odd0.ensures in
    let odd1 = lin-add (lin-mul2 (pos 9633) (neg 2259) p1 p3 c.mul2-3.ensures) (lin-mul2 (neg 11362) (neg 6436) p5 p7 c.mul2-4.ensures) c.add-odd1.ensures in
    let odd2 = lin-add (lin-mul2 (pos 6437) (neg 11362) p1 p3 c.mul2-5.ensures) (lin-mul2 (pos 2261) (pos 9633) p5 p7 c.mul2-6.ensures) c.add-odd2.ensures in
    let odd3 = lin-add (lin-mul2 (pos 2260) (neg 6436) p1 p3 c.mul2-7.ensures) (lin-mul2 (pos 9633) (neg 11363) p5 p7 c.mul2-8.ensures) c.add-odd3.ensures in
    let r0 = lin-sum tmp10 odd0 c.add.ensures in
    let r1 = lin-sum tmp11 odd1 c.add-2.ensures in
    let r2 = lin-sum tmp12 odd2 c.add-3.ensures in
    let r3 = lin-sum tmp13 odd3 c.add-4.ensures in
    let r4 = lin-difference tmp13 odd3 c.sub.ensures in
    let r5 = lin-difference tmp12 odd2 c.sub-2.ensures in
    let r6 = lin-difference tmp11 odd1 c.sub-3.ensures in
    let r7 = lin-difference tmp10 odd0 c.sub-4.ensures in
    λ i. r0 i ∷ r1 i ∷ r2 i ∷ r3 i ∷ r4 i ∷ r5 i ∷ r6 i ∷ r7 i ∷ []

use Rattle.std.proofs.Common.{rules}
use Rattle.integers.proofs.Linear.{lin-at}
use Rattle.gains.proofs.Butterfly.{eight-point}
use Rattle.islow.proofs.islow_1d.Goals as goal

pub returns : goal.returns
returns g c =
    let at = lin-at {w = g.T.Wrapping.width} g.T.Wrapping.value c.args.p in
    eight-point g.T.Wrapping.width _ (at 0 c.index-p-0.result (search rules))
    (at 1 c.index-p-1.result (search rules)) (at 2 c.index-p-2.result (search rules))
    (at 3 c.index-p-3.result (search rules)) (at 4 c.index-p-4.result (search rules))
    (at 5 c.index-p-5.result (search rules)) (at 6 c.index-p-6.result (search rules))
    (at 7 c.index-p-7.result (search rules)) c.add.ensures c.times-z1.ensures c.times.ensures c.add-tmp2.ensures
    c.times-2.ensures c.add-tmp3.ensures c.add-2.ensures c.times-tmp0.ensures c.sub.ensures c.times-tmp1.ensures
    c.add-tmp10.ensures c.sub-tmp13.ensures c.add-tmp11.ensures c.sub-tmp12.ensures c.add-z1.ensures c.add-z2.ensures
    c.add-z3.ensures c.add-z4.ensures c.add-3.ensures c.times-z5.ensures c.times-5.ensures c.times-6.ensures
    c.times-7.ensures c.times-8.ensures c.times-z1-2.ensures c.times-z2.ensures c.times-3.ensures c.add-z3-2.ensures
    c.times-4.ensures c.add-z4-2.ensures c.add-4.ensures c.add-tmp0.ensures c.add-5.ensures c.add-tmp1.ensures
    c.add-6.ensures c.add-tmp2-2.ensures c.add-7.ensures c.add-tmp3-2.ensures c.add-8.ensures c.add-9.ensures
    c.add-10.ensures c.add-11.ensures c.sub-2.ensures c.sub-3.ensures c.sub-4.ensures c.sub-5.ensures

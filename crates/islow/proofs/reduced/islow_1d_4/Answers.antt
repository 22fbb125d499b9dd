use Rattle.std.proofs.Common.{rules}
use Rattle.integers.proofs.Linear.{lin-at}
use Rattle.gains.proofs.Butterfly.{four-point}
use Rattle.islow.proofs.reduced.islow_1d_4.Goals as goal

pub returns : goal.returns
returns g c =
    let at = lin-at {w = g.T.Wrapping.width} g.T.Wrapping.value c.args.p in
    four-point g.T.Wrapping.width _ (at 0 c.index-p-0.result (search rules)) (at 1 c.index-p-1.result (search rules))
    (at 2 c.index-p-2.result (search rules)) (at 3 c.index-p-3.result (search rules))
    (at 5 c.index-p-5.result (search rules)) (at 6 c.index-p-6.result (search rules))
    (at 7 c.index-p-7.result (search rules)) c.times-tmp0.ensures c.times.ensures c.times-2.ensures
    c.add-tmp2.ensures c.add-tmp10.ensures c.sub-tmp12.ensures c.times-3.ensures c.times-4.ensures c.add.ensures
    c.times-5.ensures c.add-2.ensures c.times-6.ensures c.add-tmp0.ensures c.times-7.ensures c.times-8.ensures
    c.add-3.ensures c.times-9.ensures c.add-4.ensures c.times-10.ensures c.add-tmp2-2.ensures c.add-5.ensures
    c.add-6.ensures c.sub.ensures c.sub-2.ensures

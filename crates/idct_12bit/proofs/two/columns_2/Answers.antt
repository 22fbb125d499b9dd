use lib.ListN.{replicate}
use lib.IntN.{pos}
use mir.Syntax.{w64}
use Rattle.lists.specs.Every.{every-nil, every-cons}
use Rattle.gains.specs.Gains.{gains2}
use Rattle.passes.specs.Passes.{pass}
use Rattle.block.proofs.Unread.{two-pass, two-columns}
use Rattle.idct_12bit.proofs.Small.{zeros-small}
use Rattle.idct_12bit.proofs.two.columns_2.Goals as goal

pub returns : goal.returns
returns c =
    let r0 = c.column_2.ensures in let r1 = c.column_2-2.ensures in let r3 = c.column_2-3.ensures in let r5 = c.column_2-4.ensures in let r7 = c.column_2-5.ensures in let made =
    two-columns (pass w64 gains2 14) (two-pass w64 14) _ (replicate 2 (pos 0)) (c.load_column_2.ensures.value, r0.value) (c.load_column_2-2.ensures.value, r1.value) (c.load_column_2-3.ensures.value, r3.value)
    (c.load_column_2-4.ensures.value, r5.value) (c.load_column_2-5.ensures.value, r7.value) in let z = zeros-small 2 in record { value = made; every = every-cons r0.at_most (every-cons r1.at_most (every-cons z (every-cons r3.at_most (every-cons z (every-cons r5.at_most (every-cons z (every-cons r7.at_most every-nil))))))) }

pub column_2-requires : goal.column_2-requires
column_2-requires c = c.load_column_2.ensures.every

pub column_2-requires-2 : goal.column_2-requires-2
column_2-requires-2 c = c.load_column_2-2.ensures.every

pub column_2-requires-3 : goal.column_2-requires-3
column_2-requires-3 c = c.load_column_2-3.ensures.every

pub column_2-requires-4 : goal.column_2-requires-4
column_2-requires-4 c = c.load_column_2-4.ensures.every

pub column_2-requires-5 : goal.column_2-requires-5
column_2-requires-5 c = c.load_column_2-5.ensures.every

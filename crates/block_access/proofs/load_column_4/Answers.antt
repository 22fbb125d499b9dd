use Rattle.integers.specs.Linear.{listed}
use Rattle.lists.specs.Tab.{tab}
use Rattle.block.specs.Block.{column_of, without}
use Rattle.block.proofs.Load.{read-nil, read_one, read-zero, read_all}
use Rattle.block_access.proofs.load_column_4.Goals as goal

pub returns : goal.returns
unfolding listed tab column_of without
returns c =
    let all = read_all (read_one (c.coefficient.ensures.value, c.coefficient.ensures.fits16) (read_one (c.coefficient-2.ensures.value, c.coefficient-2.ensures.fits16) (read_one (c.coefficient-3.ensures.value, c.coefficient-3.ensures.fits16) (read_one (c.coefficient-4.ensures.value, c.coefficient-4.ensures.fits16) (read-zero (read_one (c.coefficient-5.ensures.value, c.coefficient-5.ensures.fits16) (read_one (c.coefficient-6.ensures.value, c.coefficient-6.ensures.fits16) (read_one (c.coefficient-7.ensures.value, c.coefficient-7.ensures.fits16) read-nil)))))))) in record { value = all.0; every = all.1 }

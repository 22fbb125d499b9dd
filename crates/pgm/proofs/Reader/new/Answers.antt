use mathlib.Core.Path.{refl}
use Rattle.pgm.specs.Header.{header_of}
use Rattle.pgm.specs.Reader.{reads, from, following}
use Rattle.pgm.proofs.Reader.new.Goals as goal

pub returns : goal.returns
unfolding header_of reads from following
returns c bs = refl

-- The width and height of a header that is accepted are 1 to 4096.
use Rattle.std.proofs.Common.{sym, ap, ◌∙◌}
use Rattle.pgm.specs.Reader.{told}
use Rattle.pgm.proofs.Exact.{accepted-sizes}
use Rattle.recode_pgm.proofs.copy_picture.Goals as goal

pub copy_raster-requires-clause-le_width : goal.copy_raster-requires-clause-le_width
copy_raster-requires-clause-le_width g c =
    let r = c.read_header.ensures in (accepted-sizes r.0 _ _ _ (sym r.1 ∙ ap told c.in-Ok.is)).0

pub copy_raster-requires-clause-height_bound : goal.copy_raster-requires-clause-height_bound
copy_raster-requires-clause-height_bound g c =
    let r = c.read_header.ensures in (accepted-sizes r.0 _ _ _ (sym r.1 ∙ ap told c.in-Ok.is)).1.1

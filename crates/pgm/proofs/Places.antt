-- A bad byte is refused at once: from each place at which a reader goes on, some bytes complete the header. Digits of a maxval other than
-- 255 may be followed by more, and are judged by the byte behind them.
-- Assumes nothing.
use mathlib.Core.Path.{◌≡◌}
use Rattle.pgm.specs.Header.{Refused, Text, end, byte, is_space, is_digit, starts_with, after, value, digits, number, field, whole, delimiter, exactly, header}
use Rattle.pgm.specs.Reader.{behind, from}
use Rattle.pgm.specs.declared.Field.TheVariants as is
use Rattle.pgm.specs.declared.Place.{Place}
use Rattle.pgm.specs.declared.Place.TheVariants as at
use Rattle.pgm.proofs.Exact.{verdict-ten}

-- a maxval, a height, a width, and what stands behind them
abbrev maxval : Text
maxval = byte 50 0 (byte 53 0 (byte 53 0 (byte 10 0 end)))

abbrev height : Text
height = byte 49 0 (byte 32 0 maxval)

abbrev width : Text
width = byte 49 0 (byte 32 0 height)

unfoldable pub completion : Place → Text
completion at.Start = byte 80 0 (byte 53 0 (byte 32 0 width))
completion at.P = byte 53 0 (byte 32 0 width)
completion at.Magic = byte 32 0 width
completion (at.Before is.Width) = width
completion (at.Before (is.Height w)) = height
completion (at.Before (is.Maxval w h)) = maxval
completion (at.In is.Width v) = byte 32 0 height
completion (at.In (is.Height w) v) = byte 32 0 maxval
completion (at.In (is.Maxval w h) v) = byte 10 0 end

abbrev pub Completable : Place → Type 0
Completable at.Start = Unit {0}
Completable at.P = Unit {0}
Completable at.Magic = Unit {0}
Completable (at.Before f) = Unit {0}
Completable (at.In is.Width v) = Unit {0}
Completable (at.In (is.Height w) v) = Unit {0}
Completable (at.In (is.Maxval w h) v) = v ≡ 255

pub completed : (p : Place) → Completable p → from p (completion p) ≡ Refused 10 → ⊥
unfolding from completion header behind exactly field number digits value after starts_with is_space is_digit delimiter whole
completed at.Start c e = verdict-ten 1 1 0 e
completed at.P c e = verdict-ten 1 1 0 e
completed at.Magic c e = verdict-ten 1 1 0 e
completed (at.Before is.Width) c e = verdict-ten 1 1 0 e
completed (at.Before (is.Height w)) c e = verdict-ten w 1 0 e
completed (at.Before (is.Maxval w h)) c e = verdict-ten w h 0 e
completed (at.In is.Width v) c e = verdict-ten v 1 0 e
completed (at.In (is.Height w) v) c e = verdict-ten w v 0 e
completed (at.In (is.Maxval w h) v) c e = verdict-ten w h 0 (rw c at e)

-- What a reader stands for: the answer, once the bytes that follow are known.
use Rattle.std.specs.Prelude.{◌≡◌, Bool, List, ℕ, ◌-◌, min, take, Result, Ok, Err}
use Rattle.refusals.specs.declared.Refusal.{Refusal}
use Rattle.refusals.specs.Numbers.{number as number_of}
use Rattle.pgm.specs.declared.Field.{Field}
use Rattle.pgm.specs.declared.Field.TheVariants as is
use Rattle.pgm.specs.declared.Header.{Header as Found}
use Rattle.pgm.specs.declared.Place.{Place}
use Rattle.pgm.specs.declared.Place.TheVariants as at
use Rattle.pgm.specs.declared.Reader.{Reader}
use Rattle.pgm.specs.declared.Step.{Step}
use Rattle.pgm.specs.declared.Step.TheVariants as step
use Rattle.pgm.specs.Header.{Answer, Header, Refused, Text, bare, digits, number, field, delimiter, exactly, header}

-- what a result says in the paper's terms
abbrev pub told : Result Found Refusal → Answer
told (Ok h) = Header h.width h.height h.length
told (Err e) = Refused (number_of e)

-- numbers that are equal, or both above 4096
abbrev pub Like : ℕ → ℕ → Type 0
Like v w = min v 4097 ≡ min w 4097

-- what `header` reads behind the width, the height, the maxval
unfoldable pub behind : Field → ℕ → Text → Answer
behind is.Width w = field λ h. field λ m. delimiter w h m
behind (is.Height w) h = field λ m. delimiter w h m
behind (is.Maxval w h) m = delimiter w h m

-- what `header` reads from a place on
unfoldable pub from : Place → Text → Answer
from at.Start t = header t
from at.P t = exactly 53 (field (behind is.Width)) t
from at.Magic t = field (behind is.Width) t
from (at.Before f) t = number (behind f) t
from (at.In f v) t = digits (behind f) v t

-- the bytes that follow the first n of an input, outside comments and as far as the limit goes
unfoldable pub following : Bool → ℕ → List ℕ → Text
following inside n bs = bare inside n (take (65536 - n) bs)

-- the answer of a reader that these bytes follow
unfoldable pub reads : Reader → List ℕ → Answer
reads r bs = from r.place (following r.comment r.count bs)

-- the answer that a step leads to
unfoldable pub goes_on : Result Step Refusal → List ℕ → Answer
goes_on (Ok (step.More r)) bs = reads r bs
goes_on (Ok (step.Done h)) bs = told (Ok h)
goes_on (Err e) bs = told (Err e)

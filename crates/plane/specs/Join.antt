-- Document 02, card 13: "Join two coefficient planes of Card 1 into one whose blocks are the left's and then the right's in each row of
-- blocks."
use Rattle.std.specs.Prelude.{◌≡◌, Bool, List, [], ◌∷◌, ◌++◌, ℕ, ◌+◌, ◌*◌, ◌%◌, ◌≤◌, leb, eqb, length, get_or, ℤ, pos}
use Rattle.lists.specs.Below.{below}
use Rattle.lists.specs.Grid.{beside}
use Rattle.refusals.specs.Refusals.{Test, ◌unless◌, ◌of◌}
use Rattle.quantize.specs.Quantize.{divisor_of}
use Rattle.plane.specs.Plane.{blocks, size_tests}
use Rattle.plane.specs.Scale.{Scale, cropped, plane_samples}
use Rattle.plane.specs.Counts.{plane_raised, plane_lowered}

-- a row of n blocks is 64n coefficients
unfoldable pub joined : ℕ → ℕ → ℕ → List ℤ → List ℤ → List ℤ
joined wl wr h left right = beside (pos 0) (64 * blocks wl) (64 * blocks wr) (blocks h) left right

-- "15, divisors differ (a quantizer 0 counts as 1)"
unfoldable pub same_divisors : List ℕ → List ℕ → Bool
same_divisors quant other = below 64 (λ n. eqb (divisor_of (get_or quant n 0)) (divisor_of (get_or other n 0)))

-- "Order: 8, 1 and 2, each for left then right; 15, 16, 17; 8 for a joined width above 4096; 3." 1 and 2 are those of the plane inverse
unfoldable pub strip_tests : List ℤ → ℕ → ℕ → List ℕ → List ℤ → ℕ → ℕ → List ℕ → List Test
strip_tests left wl hl ql right wr hr qr =
    size_tests wl hl ++ size_tests wr hr
    ++ 1 unless left of (64 * (blocks wl * blocks hl)) ∷ 1 unless right of (64 * (blocks wr * blocks hr)) ∷ 2 unless ql of 64 ∷ 2 unless qr of 64 ∷ []

-- "15, divisors differ [..]; 16, heights differ; 17, left width not a multiple of 8"; the output has 64 places for each joined block
unfoldable pub fitting_tests : ℕ → ℕ → List ℕ → ℕ → ℕ → List ℕ → List ℤ → List Test
fitting_tests wl hl ql wr hr qr out =
    15 unless same_divisors ql qr ∷ 16 unless eqb hl hr ∷ 17 unless eqb (wl % 8) 0 ∷ 8 unless leb (wl + wr) 4096
    ∷ 3 unless out of (64 * (blocks (wl + wr) * blocks hl)) ∷ []

abbrev pub join_tests : List ℤ → ℕ → ℕ → List ℕ → List ℤ → ℕ → ℕ → List ℕ → List ℤ → List Test
join_tests left wl hl ql right wr hr qr out = strip_tests left wl hl ql right wr hr qr ++ fitting_tests wl hl ql wr hr qr out

-- "Decoding the joined plane shows the left picture beside the right one, sample by sample, and the clamp counts add up": the coefficients
-- cs of a plane of wl + wr columns, at one scale
pub record ShowsBoth (s : Scale) (cs : List ℤ) (left : List ℤ) (wl h : ℕ) (ql : List ℕ) (right : List ℤ) (wr : ℕ) (qr : List ℕ) : Type 0 where
  pub samples : plane_samples s cs (wl + wr) h ql ≡ beside 0 (cropped s wl) (cropped s wr) (cropped s h) (plane_samples s left wl h ql) (plane_samples s right wr h qr)
  pub raised : plane_raised s cs (wl + wr) h ql ≡ plane_raised s left wl h ql + plane_raised s right wr h qr
  pub lowered : plane_lowered s cs (wl + wr) h ql ≡ plane_lowered s left wl h ql + plane_lowered s right wr h qr

-- what the copying of rows may count on: h rows of p and of q places, whole blocks of them, and room for both
pub record Joinable (p q h : ℕ) (left right out : List ℤ) : Type 0 where
  pub p-blocks : p % 64 ≡ 0
  pub q-blocks : q % 64 ≡ 0
  pub p-most : p ≤ 32768
  pub q-most : q ≤ 32768
  pub h-most : h ≤ 512
  pub left-long : length left ≡ p * h
  pub right-long : length right ≡ q * h
  pub out-long : length out ≡ (p + q) * h

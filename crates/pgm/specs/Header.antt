-- Document 02, card 2: the header of a picture is that of Netpbm's PGM page ("The format", items 1 to 8), P5 with maxval 255; what is
-- quoted without a source is from there, and of comments from the PBM page, to which it refers. What an input's header comes to is
-- `header_of`, at the end. proofs/Exact.antt holds it to the grammar of Grammar.antt.
use Rattle.std.specs.Prelude.{Bool, true, false, cond, not, ◌&&◌, ◌||◌, List, [], ◌∷◌, ℕ, ◌+◌, ◌-◌, ◌*◌, eqb, leb, take}
use Rattle.plane.specs.Plane.{measured}

-- what an input's header comes to: its width, its height and how long it is in bytes, with the delimiter; or a refusal's number
pub data Answer : Type 0 where
  Header : ℕ → ℕ → ℕ → Answer
  Refused : ℕ → Answer

-- "Whitespace (blanks, TABs, CRs, LFs)"
unfoldable pub is_space : ℕ → Bool
is_space b = eqb b 32 || (eqb b 9 || (eqb b 13 || eqb b 10))

-- "ASCII characters in decimal"
unfoldable pub is_digit : ℕ → Bool
is_digit b = leb 48 b && leb b 57

-- ---- comments

-- bytes, each with its place in the input, counted from 1
pub data Text : Type 0 where
  end : Text
  byte : ℕ → ℕ → Text → Text

-- whether what follows b is in a comment, where b is in one or not: "any characters from a # to and including the next carriage return
-- or newline character"
unfoldable pub in_comment : Bool → ℕ → Bool
in_comment true b = not (eqb b 13 || eqb b 10)
in_comment false b = eqb b 35

-- the bytes that stand in no comment, where n bytes of the input stand before these: a comment "is ignored"
unfoldable pub bare : Bool → ℕ → List ℕ → Text
bare inside n [] = end
bare inside n (b ∷ bs) = let rest = bare (in_comment inside b) (n + 1) bs in cond (inside || eqb b 35) rest (byte b (n + 1) rest)

-- ---- the items, each read from the start of a text; `k` reads what stands behind

unfoldable pub starts_with : (ℕ → Bool) → Text → Bool
starts_with is end = false
starts_with is (byte b n t) = is b

-- the text behind the bytes of a kind that it starts with
unfoldable pub after : (ℕ → Bool) → Text → Text
after is end = end
after is (byte b n t) = cond (is b) (after is t) (byte b n t)

-- the value of the digits that a text starts with, v being that of the digits before it
unfoldable pub value : ℕ → Text → ℕ
value v end = v
value v (byte b n t) = cond (is_digit b) (value (10 * v + (b - 48)) t) v

unfoldable pub digits : (ℕ → Text → Answer) → ℕ → Text → Answer
digits k v t = k (value v t) (after is_digit t)

-- a number, perhaps behind white space
unfoldable pub number : (ℕ → Text → Answer) → Text → Answer
number k t = cond (starts_with is_digit (after is_space t)) (digits k 0 (after is_space t)) (Refused 10)

-- "Whitespace", and a number
unfoldable pub field : (ℕ → Text → Answer) → Text → Answer
field k t = cond (starts_with is_space t) (number k t) (Refused 10)

unfoldable pub exactly : ℕ → (Text → Answer) → Text → Answer
exactly b k end = Refused 10
exactly b k (byte b' n t) = cond (eqb b' b) (k t) (Refused 10)

-- card 2: "A decimal width or height of 0 or above 4096 is an 8"
unfoldable pub verdict : ℕ → ℕ → ℕ → Answer
verdict w h n = cond (measured w && measured h) (Header w h n) (Refused 8)

-- a whole header of n bytes. Card 2: "maxval 255"; 10 comes "before 8"
unfoldable pub whole : ℕ → ℕ → ℕ → ℕ → Answer
whole w h m n = cond (eqb m 255) (verdict w h n) (Refused 10)

-- "A single whitespace character", the raster's delimiter: its place is the header's length
unfoldable pub delimiter : ℕ → ℕ → ℕ → Text → Answer
delimiter w h m end = Refused 10
delimiter w h m (byte b n t) = cond (is_space b) (whole w h m n) (Refused 10)

-- "P5", the width, the height, the maxval, the delimiter
unfoldable pub header : Text → Answer
header = exactly 80 (exactly 53 (field λ w. field λ h. field λ m. delimiter w h m))

-- card 2: a header that "exceeds 65536 bytes with its delimiter" is none
unfoldable pub header_of : List ℕ → Answer
header_of input = header (bare false 0 (take 65536 input))

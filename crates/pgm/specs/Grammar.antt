-- Netpbm's page as a grammar: what it is for an input to start with a header of n bytes. The quotes are those of Header.antt.
use Rattle.std.specs.Prelude.{◌≡◌, Bool, true, false, List, [], ◌∷◌, ◌++◌, ℕ, ◌+◌, ◌-◌, ◌*◌, ◌≤◌, length}
use Rattle.pgm.specs.Header.{is_space, is_digit}

-- bytes, and what is left of them without comments; the first of them stands outside a comment (false) or in one (true), and none is open
-- at the end. "any characters from a # to and including the next carriage return or newline character, is a comment and is ignored"
pub data Without : Bool → List ℕ → List ℕ → Type 0 where
  none : Without false [] []
  kept : {b : ℕ} {bs ts : List ℕ} → (b ≡ 35 → ⊥) → Without false bs ts → Without false (b ∷ bs) (b ∷ ts)
  opened : {bs ts : List ℕ} → Without true bs ts → Without false (35 ∷ bs) ts
  inside : {b : ℕ} {bs ts : List ℕ} → (b ≡ 13 → ⊥) → (b ≡ 10 → ⊥) → Without true bs ts → Without true (b ∷ bs) ts
  closed-cr : {bs ts : List ℕ} → Without false bs ts → Without true (13 ∷ bs) ts
  closed-lf : {bs ts : List ℕ} → Without false bs ts → Without true (10 ∷ bs) ts

-- one or more bytes of a kind
pub data Run (is : ℕ → Bool) : List ℕ → Type 0 where
  one : {b : ℕ} → is b ≡ true → Run is (b ∷ [])
  more : {b : ℕ} {bs : List ℕ} → is b ≡ true → Run is bs → Run is (b ∷ bs)

-- the value of decimal digits behind others whose value is v
unfoldable pub decimal : ℕ → List ℕ → ℕ
decimal v [] = v
decimal v (b ∷ bs) = decimal (10 * v + (b - 48)) bs

-- "formatted as ASCII characters in decimal"
pub record Number (bytes : List ℕ) (value : ℕ) : Type 0 where
  pub digits : Run is_digit bytes
  pub valued : decimal 0 bytes ≡ value

-- the input is `front`, the delimiter and the rest; the header is the first n bytes of it, and its width and height are w and h
pub record Starts (input : List ℕ) (n w h : ℕ) : Type 0 where
  pub front : List ℕ
  pub delimiter : ℕ
  pub rest : List ℕ
  pub is-input : input ≡ front ++ (delimiter ∷ rest)
  pub is-long : n ≡ length front + 1
  -- card 2: not what "exceeds 65536 bytes with its delimiter"
  pub limit : n ≤ 65536
  pub space₁ : List ℕ
  pub width : List ℕ
  pub space₂ : List ℕ
  pub height : List ℕ
  pub space₃ : List ℕ
  pub maxval : List ℕ
  -- "Before the whitespace character that delimits the raster": comments; without them the magic number, "the two characters P5", and
  pub bare : Without false front (80 ∷ 53 ∷ (space₁ ++ (width ++ (space₂ ++ (height ++ (space₃ ++ maxval))))))
  -- "Whitespace"
  pub is-space₁ : Run is_space space₁
  -- "A width"
  pub is-width : Number width w
  -- "Whitespace"
  pub is-space₂ : Run is_space space₂
  -- "A height"
  pub is-height : Number height h
  -- "Whitespace"
  pub is-space₃ : Run is_space space₃
  -- "The maximum gray value (Maxval)": card 2's 255
  pub is-maxval : Number maxval 255
  -- "A single whitespace character"
  pub is-delimiter : is_space delimiter ≡ true

-- Document 01, "Known blocks": "Starred cases form one table, proved by one theorem on the definitions." The definitions are those
-- that the entries' contracts cite.
use Rattle.std.specs.Prelude.{List, [], ◌∷◌, map, ◌≡◌, ℕ, replicate, ℤ, pos, neg_ℤ}
use Rattle.forward.specs.Canonical.{coefficients}
use Rattle.passes.specs.Passes.{eight}
use Rattle.block.specs.Block.{block, block12bit}

-- A case, each number beside what it is. Forward: 64 equal samples, 64 equal quantizers, and the DC coefficient, beside which every
-- AC coefficient is 0. Inverse, 8×8: a DC coefficient, beside which every AC coefficient is 0, and the 64 equal samples.
pub data Case : Type 0 where
  forward : (sample quantizer : ℕ) → (dc : ℤ) → Case
  inverse : (dc : ℤ) → (sample : ℕ) → Case
  inverse12bit : (dc : ℤ) → (sample : ℕ) → Case

abbrev neg : ℕ → ℤ
neg n = neg_ℤ (pos n)

unfoldable pub table : List Case
table =
    -- "all 128: all zero"; "All 0, d 1: DC -1024"
    forward 128 1 (pos 0)
    ∷ forward 0 1 (neg 1024)
    -- "all 129, DC quantizer 16: 1 (a tie)"; "All 127: -1"; "All 129, quantizer 17: 0"
    ∷ forward 129 16 (pos 1)
    ∷ forward 127 16 (neg 1)
    ∷ forward 129 17 (pos 0)
    -- "quantizer 0, all 255: 1016"; "Quantizer 255: 4"
    ∷ forward 255 0 (pos 1016)
    ∷ forward 255 255 (pos 4)
    -- "inverse DC 4: all 129"; "DC 3: 128"; "DC -4: 128"; "DC -5: 127"
    ∷ inverse (pos 4) 129
    ∷ inverse (pos 3) 128
    ∷ inverse (neg 4) 128
    ∷ inverse (neg 5) 127
    -- "32-bit DC 65536: all 255"; "12-bit DC 8: all 2049"
    ∷ inverse (pos 65536) 255
    ∷ inverse12bit (pos 8) 2049
    ∷ []

-- a block of this DC coefficient and no AC
unfoldable pub flat : ℤ → List ℤ
flat dc = dc ∷ replicate 63 (pos 0)

-- what the definitions give for a case. The 8-bit 8×8 inverse has one definition for 16- and 32-bit input
unfoldable pub given : Case → List ℤ
given (forward sample quantizer dc) = coefficients (replicate 64 sample) (replicate 64 quantizer)
given (inverse dc sample) = map pos (block eight (flat dc))
given (inverse12bit dc sample) = map pos (block12bit eight (flat dc))

-- what the case expects
unfoldable pub expected : Case → List ℤ
expected (forward sample quantizer dc) = flat dc
expected (inverse dc sample) = replicate 64 (pos sample)
expected (inverse12bit dc sample) = replicate 64 (pos sample)

-- every case of a table holds: row by row the definitions give what is expected
unfoldable pub Holds : List Case → Type 0
Holds cases = map given cases ≡ map expected cases

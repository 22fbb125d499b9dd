-- Document 01, leaf 3: the cosines of mπ/16, in units of 2^-62, by square roots of whole numbers.
use Rattle.std.specs.Prelude.{◌≡◌, List, [], ◌∷◌, ℕ, ◌+◌, ◌-◌, ◌*◌, ◌/◌, ◌^◌, ◌<◌, ◌≤◌}

-- "Let r(v) be the largest whole number whose square is at most v·2^62": r is r(v)
pub record Root (v r : ℕ) : Type 0 where
  pub below : r * r ≤ v * 2 ^ 62
  pub above : v * 2 ^ 62 < (r + 1) * (r + 1)

-- "With U = 2^62, s = r(2U), a = r(2U+s), b = r(2U-s), the cosines of mπ/16 for m = 0..8 are U, r(2U+a)/2, a/2, r(2U+b)/2, s/2,
-- r(2U-b)/2, b/2, r(2U-a)/2, 0, halves rounded down"
pub record Cosines (cs : List ℕ) : Type 0 where
  pub s : ℕ
  pub a : ℕ
  pub b : ℕ
  pub r1 : ℕ
  pub r3 : ℕ
  pub r5 : ℕ
  pub r7 : ℕ
  pub s-is : Root (2 * 2 ^ 62) s
  pub a-is : Root (2 * 2 ^ 62 + s) a
  pub b-is : Root (2 * 2 ^ 62 - s) b
  pub r1-is : Root (2 * 2 ^ 62 + a) r1
  pub r3-is : Root (2 * 2 ^ 62 + b) r3
  pub r5-is : Root (2 * 2 ^ 62 - b) r5
  pub r7-is : Root (2 * 2 ^ 62 - a) r7
  pub are : cs ≡ 2 ^ 62 ∷ r1 / 2 ∷ a / 2 ∷ r3 / 2 ∷ s / 2 ∷ r5 / 2 ∷ b / 2 ∷ r7 / 2 ∷ 0 ∷ []

-- the nine numbers; `cosines-are` of proofs/Rule.antt says that they are the cosines
unfoldable pub cosines : List ℕ
cosines =
    4611686018427387904 ∷ 4523073764714963029 ∷ 4260642322793532497
    ∷ 3834476785802888710 ∷ 3260954456333195553 ∷ 2562115475870945497
    ∷ 1764815834521887441 ∷ 899695310372275547 ∷ 0 ∷ []

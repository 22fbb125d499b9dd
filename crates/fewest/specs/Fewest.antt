-- Document 02, card 12: "The store keeper gives a plane, a base table, an error limit and a number of trials. Percents 1, 2, 3 and on are
-- tried, at most 200, each by coding and decoding the plane."
use Rattle.std.specs.Prelude.{Bool, cond, ◌&&◌, ◌||◌, List, [], ◌∷◌, ◌++◌, ℕ, suc, ◌-◌, ◌*◌, min, eqb, leb, ltb, pos, nat_abs, ◌-ℤ◌, length, get_or}
use Rattle.lists.specs.Tab.{tab}
use Rattle.refusals.specs.Refusals.{Test, ◌unless◌, ◌of◌, status, written}
use Rattle.forward.specs.Sum.{total}
use Rattle.plane.specs.Plane.{plane_coefficients, size_tests}
use Rattle.plane.specs.Scale.{full, recoded}
use Rattle.percent.specs.Percent.{percent_table}
use Rattle.percent.specs.Nonzeros.{nonzeros}

-- what the search found: none tried is good, or the percent
pub data Found : Type 0 where
  NoneGood : Found
  Good : ℕ → Found

-- what the call answers: 0 or a refusal's number; what was found; how far off it is at most; and the number of trials. After a refusal
-- nothing is found, and the numbers are 0
pub record Fewest : Type 0 where
  pub status : ℕ
  pub found : Found
  pub off : ℕ
  pub trials : ℕ

-- ---- one trial: the plane coded and decoded under a table

unfoldable pub squared : ℕ → ℕ → ℕ
squared a b = let d = nat_abs (pos a -ℤ pos b) in d * d

-- "the squared sample error, summed over the plane's width × height samples"
unfoldable pub plane_error : List ℕ → ℕ → ℕ → List ℕ → ℕ
plane_error samples w h quant = total (w * h) (λ i. squared (get_or samples i 0) (get_or (recoded full samples w h quant) i 0))

-- its "nonzero coefficients", over all blocks
unfoldable pub plane_nonzeros : List ℕ → ℕ → ℕ → List ℕ → ℕ
plane_nonzeros samples w h quant = nonzeros (plane_coefficients samples w h quant)

-- the same at each percent of the base table
unfoldable pub error_at : List ℕ → ℕ → ℕ → List ℕ → ℕ → ℕ
error_at samples w h base p = plane_error samples w h (percent_table base p)

unfoldable pub count_at : List ℕ → ℕ → ℕ → List ℕ → ℕ → ℕ
count_at samples w h base p = plane_nonzeros samples w h (percent_table base p)

-- ---- the search, of any error and count at each percent

-- "Percents 1, 2, 3 and on are tried, at most 200": the list
unfoldable pub percents_tried : ℕ → List ℕ
percents_tried given = tab (min given 200) suc

-- "A percent is good if the squared sample error [..] is at most the limit"
unfoldable pub good : ℕ → (ℕ → ℕ) → ℕ → Bool
good limit error p = leb (error p) limit

-- "the fewest nonzero coefficients, the larger percent on equality": whether p stands before q
unfoldable pub preferred : (ℕ → ℕ) → ℕ → ℕ → Bool
preferred count p q = ltb (count p) (count q) || (eqb (count p) (count q) && ltb q p)

-- what is found of what was found and one good percent more
unfoldable pub better : (ℕ → ℕ) → Found → ℕ → Found
better count NoneGood p = Good p
better count (Good q) p = cond (preferred count p q) (Good p) (Good q)

-- and of one percent more, good or not
unfoldable pub tried : ℕ → (ℕ → ℕ) → (ℕ → ℕ) → Found → ℕ → Found
tried limit error count found p = cond (good limit error p) (better count found p) found

unfoldable pub searched : ℕ → (ℕ → ℕ) → (ℕ → ℕ) → Found → List ℕ → Found
searched limit error count found [] = found
searched limit error count found (p ∷ ps) = searched limit error count (tried limit error count found p) ps

-- "the good percent tried with the fewest nonzero coefficients [..]; or 'none tried is good'"
unfoldable pub best : ℕ → (ℕ → ℕ) → (ℕ → ℕ) → List ℕ → Found
best limit error count percents = searched limit error count NoneGood percents

-- ---- the cases of what is found: both are results, so the call's number is 0. Their values: the percent, 0 for "none tried is good", and
-- "how far off it is at most": "its count less the count at percent 200"; "With no good percent that difference is 0"
unfoldable pub percent_of : Found → ℕ
percent_of NoneGood = 0
percent_of (Good p) = p

unfoldable pub far_off : (ℕ → ℕ) → Found → ℕ
far_off count NoneGood = 0
far_off count (Good p) = count p - count 200

-- ---- the answer

-- "Order: 8, 9, 2"
unfoldable pub search_tests : List ℕ → ℕ → ℕ → List ℕ → List Test
search_tests samples w h base = size_tests w h ++ 9 unless samples of (w * h) ∷ 2 unless base of 64 ∷ []

unfoldable pub best_percent : List ℕ → ℕ → ℕ → List ℕ → ℕ → ℕ → Found
best_percent samples w h base limit given = best limit (error_at samples w h base) (count_at samples w h base) (percents_tried given)

-- "The result also gives the number of trials in the definition's list"
unfoldable pub fewest_answer : List ℕ → ℕ → ℕ → List ℕ → ℕ → ℕ → Fewest
fewest_answer samples w h base limit given =
    let s = status (search_tests samples w h base) in
    let found = best_percent samples w h base limit given in
    record {
      status = s;
      found = written s found NoneGood;
      off = written s (far_off (count_at samples w h base) found) 0;
      trials = written s (length (percents_tried given)) 0;
    }

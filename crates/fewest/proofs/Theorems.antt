-- Document 02, card 12: what the search finds. Of the answer of a call that is not refused `answer-found` and `answer-off` say that it is
-- this. Assumes nothing.
use mathlib.Core.Path.{◌≡◌, refl, sym, subst}
use mathlib.Core.Bool.{true}
use mathlib.Core.List.{List}
use Prim.Native.Nat.{ℕ, ◌+◌, ◌^◌, ◌≤◌, ◌<◌, min}
use native.Mathlib.Nat.{mul-le-mul}
use native.Mathlib.Omega.{arith}
use borrow.Author.Tests.{leb-true, leb-false, le-leb}
use lib.ListN.{get_or}
use Rattle.refusals.specs.Refusals.{status}
use Rattle.refusals.proofs.Refusals.{wrote}
use Rattle.plane.specs.Plane.{blocks}
use Rattle.percent.specs.Percent.{percent_table}
use Rattle.percent.proofs.Nonzeros.{plane-nonzeros-most}
use Rattle.fewest.specs.Fewest.{Found, NoneGood, Good, plane_nonzeros, error_at, count_at, percents_tried, good, far_off, search_tests, best_percent, fewest_answer}
use Rattle.fewest.proofs.Searching.{best_none, Outcome, outcome}
use Rattle.fewest.proofs.Trials.{plane-error-most}
use Rattle.fewest.proofs.Answers.{count-falls}

module _ (samples : List ℕ) (w h : ℕ) (base : List ℕ) (limit given : ℕ) where
  abbrev error : ℕ → ℕ
  error p = error_at samples w h base p

  abbrev count : ℕ → ℕ
  count p = count_at samples w h base p

  abbrev found : Found
  found = best_percent samples w h base limit given

  whole : {r : Found} → found ≡ r → Outcome limit (error_at samples w h base) (count_at samples w h base) (min given 200) r
  unfolding best_percent percents_tried
  whole e = subst (Outcome limit (error_at samples w h base) (count_at samples w h base) (min given 200)) e (outcome limit (error_at samples w h base) (count_at samples w h base) (min given 200))

  good-at : (p : ℕ) → error p ≤ limit → good limit (error_at samples w h base) p ≡ true
  unfolding good
  good-at p l = le-leb (error p) limit l

  -- the percent reported was tried, and is good
  pub reported : (q : ℕ) → found ≡ Good q → ((1 ≤ q) × (q ≤ min given 200)) × (error q ≤ limit)
  unfolding good
  reported q e = let o = whole e in (o.0, leb-true (error q) limit o.1)

  -- no good percent tried has fewer nonzero coefficients, and none that has as many is larger
  pub fewest : (q : ℕ) → found ≡ Good q → (p : ℕ) → 1 ≤ p → p ≤ min given 200 → error p ≤ limit → (count q ≤ count p) × (count q ≡ count p → p ≤ q)
  fewest q e p a b l = let before = (whole e).2 p a b (good-at p l) in (before.fewer, before.larger)

  -- "none tried is good"
  pub none-good : found ≡ NoneGood → (p : ℕ) → 1 ≤ p → p ≤ min given 200 → limit < error p
  unfolding good
  none-good e p a b = leb-false (error p) limit (whole e p a b)

  -- where a percent tried is good, one is reported
  pub some_good : (p : ℕ) → 1 ≤ p → p ≤ min given 200 → error p ≤ limit → (q : ℕ) × (found ≡ Good q)
  some_good p a b l = go found refl
    where
      go : (r : Found) → found ≡ r → (q : ℕ) × (r ≡ Good q)
      go NoneGood e = absurd (omega (arith, none-good e p a b))
      go (Good q) e = (q, refl)

  -- "With 200 trials a good percent is reported if one exists, and no good percent has fewer nonzeros", of all 200
  pub complete : 200 ≤ given → (p : ℕ) → 1 ≤ p → p ≤ 200 → error p ≤ limit → (q : ℕ) × (found ≡ Good q) × (count q ≤ count p)
  complete all p a b l =
      let tried : p ≤ min given 200 = omega arith in
      let one = some_good p a tried l in
      (one.0, one.1, (fewest one.0 one.1 p a tried l).0)

  -- "how far off it is at most": no percent of 1 to 200, tried or not, has a count that lies further below
  pub bounded : (q : ℕ) → found ≡ Good q → (p : ℕ) → p ≤ 200 → count q ≤ count p + far_off (count_at samples w h base) found
  unfolding far_off
  bounded q e p b = rw e (omega (arith, count-falls samples w h base p 200 b))

  -- ---- of the call's answer

  pub answer-found : status (search_tests samples w h base) ≡ 0 → (fewest_answer samples w h base limit given).found ≡ found
  unfolding fewest_answer
  answer-found e = sym (wrote found NoneGood e refl)

  pub answer-off : status (search_tests samples w h base) ≡ 0 → (fewest_answer samples w h base limit given).off ≡ far_off (count_at samples w h base) found
  unfolding fewest_answer
  answer-off e = sym (wrote (far_off (count_at samples w h base) found) 0 e refl)

-- "With 0 trials the result is 'none tried is good'"
pub no-trials : (samples : List ℕ) (w h : ℕ) (base : List ℕ) (limit : ℕ) → best_percent samples w h base limit 0 ≡ NoneGood
unfolding best_percent percents_tried
no-trials samples w h base limit = best_none limit (error_at samples w h base) (count_at samples w h base)

-- no error or count of a plane within the sizes comes near 64 bits
few : (n : ℕ) → n ≤ 4096 → blocks n ≤ 512
unfolding blocks
few n l = omega arith

pub error-fits : (samples : List ℕ) → ((i : ℕ) → get_or samples i 0 ≤ 255) → (w h : ℕ) → w ≤ 4096 → h ≤ 4096 → (base : List ℕ) (p : ℕ) → error_at samples w h base p < 2 ^ 40
unfolding error_at
error-fits samples bytes w h a b base p = omega (arith, plane-error-most samples bytes w h (percent_table base p), mul-le-mul (few w a) (few h b))

pub count_fits : (samples : List ℕ) (w h : ℕ) → w ≤ 4096 → h ≤ 4096 → (base : List ℕ) (p : ℕ) → count_at samples w h base p ≤ 2 ^ 24
unfolding count_at plane_nonzeros
count_fits samples w h a b base p = omega (arith, plane-nonzeros-most samples w h (percent_table base p), mul-le-mul (few w a) (few h b))

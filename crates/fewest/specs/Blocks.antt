-- What the call works out, one block and one table at a time.
use Rattle.std.specs.Prelude.{cond, map, List, ℕ, ◌+◌, ◌-◌, ◌*◌, ◌/◌, ◌%◌, ◌^◌, ◌≤◌, min, ltb, ℤ, pos, get_or}
use Rattle.lists.specs.Tab.{tab}
use Rattle.lists.specs.Grid.{grid, at}
use Rattle.quantize.specs.Quantize.{coefficient}
use Rattle.forward.specs.Sum.{total}
use Rattle.forward.specs.Canonical.{coefficients}
use Rattle.plane.specs.Plane.{blocks, block_of}
use Rattle.plane.specs.Scale.{full, block_samples}
use Rattle.percent.specs.Percent.{percent_divisor}
use Rattle.percent.specs.Nonzeros.{nonzeros}
use Rattle.fewest.specs.Fewest.{squared}
use Rattle.fewest.specs.declared.Trial.{Trial}
use Rattle.fewest.specs.declared.Tried.{Tried}

-- the tables at percents 1 to 200, one after the other
unfoldable pub percent_tables : List ℕ → List ℕ
percent_tables base = grid 64 200 (λ n p. percent_divisor (get_or base n 0) (p + 1))

-- table p of tables one after the other
unfoldable pub table_of : List ℕ → ℕ → List ℕ
table_of tables p = tab 64 (λ n. at 0 64 tables n p)

-- a block's coefficients under a table, of its 64 sums
unfoldable pub coded_sums : List ℤ → List ℕ → List ℤ
coded_sums sums quant = tab 64 (λ n. coefficient (get_or sums n (pos 0)) (get_or quant n 0))

-- the sample at place i counts where it lies in the first columns and rows
unfoldable pub error_term : ℕ → ℕ → List ℕ → List ℕ → ℕ → ℕ
error_term columns rows a b i = cond (ltb (i % 8) columns) (cond (ltb (i / 8) rows) (squared (get_or a i 0) (get_or b i 0)) 0) 0

unfoldable pub error_within : ℕ → ℕ → List ℕ → List ℕ → ℕ
error_within columns rows a b = total 64 (error_term columns rows a b)

-- the squared error of a block coded and decoded, over its first columns and rows
unfoldable pub block_error : ℕ → ℕ → List ℕ → List ℤ → List ℕ → ℕ
block_error columns rows block cs quant = error_within columns rows block (block_samples full quant cs)

-- the trial of a block with these sums under a table
unfoldable pub block_trial : ℕ → ℕ → List ℕ → List ℤ → List ℕ → Trial
block_trial columns rows block sums quant =
    let cs = coded_sums sums quant in
    record { error = block_error columns rows block cs quant; count = nonzeros cs }

-- that of block k of a plane, over what lies in the plane
unfoldable pub error_of : List ℕ → ℕ → ℕ → List ℕ → ℕ → ℕ
error_of samples w h quant k =
    let block = block_of samples w h k in
    block_error (min 8 (w - 8 * (k % blocks w))) (min 8 (h - 8 * (k / blocks w))) block (coefficients block quant) quant

unfoldable pub count_of : List ℕ → ℕ → ℕ → List ℕ → ℕ → ℕ
count_of samples w h quant k = nonzeros (coefficients (block_of samples w h k) quant)

-- 200 numbers, f's for the first n percents and 0 for the others; and 200 numbers after these were added
unfoldable pub first_of : ℕ → (ℕ → ℕ) → List ℕ
first_of n f = tab 200 (λ p. cond (ltb p n) (f p) 0)

unfoldable pub grown : ℕ → (ℕ → ℕ) → List ℕ → List ℕ
grown n f l = tab 200 (λ p. get_or l p 0 + cond (ltb p n) (f p) 0)

-- the errors and the counts of what was tried
unfoldable pub errors_in : List Tried → List ℕ
errors_in all = map (λ t. t.error) all

unfoldable pub counts_in : List Tried → List ℕ
counts_in all = map (λ t. t.count) all

-- errors and counts that can grow
pub record Room (errors counts : List ℕ) : Type 0 where
  pub errors-most : (p : ℕ) → get_or errors p 0 ≤ 2 ^ 62
  pub counts-most : (p : ℕ) → get_or counts p 0 ≤ 2 ^ 62

-- the number at percent p, of a list from percent 1 on
unfoldable pub at_percent : List ℕ → ℕ → ℕ
at_percent l p = get_or l (p - 1) 0

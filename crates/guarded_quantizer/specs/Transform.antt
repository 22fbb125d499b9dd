-- Document 01, "The guarded quantizer": `fdct_8`, each operation rounded once in the Rust's order.
use Rattle.std.specs.Prelude.{List, [], ◌∷◌, slice_index_or}
use Rattle.std.specs.Prelude.{Float}
use Rattle.std.specs.Float.{nan, binary64}
use Rattle.std.specs.Float.Ieee.{add, sub, mul}
use Rattle.guarded_quantizer.specs.Literals.{decimal, frac1_sqrt2}

-- `fdct_8`, one operation to a line
unfoldable pub fdct8 : List Float → List Float
fdct8 input =
    let x0 = slice_index_or input 0 nan in
    let x1 = slice_index_or input 1 nan in
    let x2 = slice_index_or input 2 nan in
    let x3 = slice_index_or input 3 nan in
    let x4 = slice_index_or input 4 nan in
    let x5 = slice_index_or input 5 nan in
    let x6 = slice_index_or input 6 nan in
    let x7 = slice_index_or input 7 nan in
    let sum0 = add binary64 x0 x7 in
    let sum1 = add binary64 x1 x6 in
    let sum2 = add binary64 x2 x5 in
    let sum3 = add binary64 x3 x4 in
    let diff0 = sub binary64 x0 x7 in
    let diff1 = sub binary64 x1 x6 in
    let diff2 = sub binary64 x2 x5 in
    let diff3 = sub binary64 x3 x4 in
    let outer = add binary64 sum0 sum3 in
    let inner = add binary64 sum1 sum2 in
    let even = sub binary64 sum0 sum3 in
    let even_sum1 = add binary64 even sum1 in
    let even_sum2 = sub binary64 even_sum1 sum2 in
    let rotation = mul binary64 even_sum2 frac1_sqrt2 in
    let left = add binary64 diff3 diff2 in
    let right = add binary64 diff1 diff0 in
    let left_right = sub binary64 left right in
    let cross = mul binary64 left_right (decimal 3826834323650898 16) in
    let left_part = mul binary64 left (decimal 541196100146197 15) in
    let low = add binary64 left_part cross in
    let right_part = mul binary64 right (decimal 13065629648763766 16) in
    let high = add binary64 right_part cross in
    let diffs = add binary64 diff2 diff1 in
    let middle = mul binary64 diffs frac1_sqrt2 in
    let plus = add binary64 diff0 middle in
    let minus = sub binary64 diff0 middle in
    let r0 = add binary64 outer inner in
    let r1 = add binary64 plus high in
    let r2 = add binary64 even rotation in
    let r3 = sub binary64 minus low in
    let r4 = sub binary64 outer inner in
    let r5 = add binary64 minus low in
    let r6 = sub binary64 even rotation in
    let r7 = sub binary64 plus high in
    r0 ∷ r1 ∷ r2 ∷ r3 ∷ r4 ∷ r5 ∷ r6 ∷ r7 ∷ []

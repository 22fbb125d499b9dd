-- The integer squares enclose one list of cosines only. Assumes nothing.
use mathlib.Core.Path.{◌≡◌, sym, subst, ◌∙◌}
use mathlib.Core.List.{List, [], ◌∷◌}
use Prim.Native.Nat.{ℕ, ◌+◌, ◌-◌, ◌*◌, ◌/◌, ◌^◌, ◌<◌, ◌≤◌}
use native.Mathlib.Decide.{dec_le}
use native.Mathlib.Nat.{mul-le-mul}
use native.Mathlib.Omega.{arith}
use Rattle.basis.specs.Cosine.{Root, Cosines, cosines}
use Rattle.basis.proofs.Rule.{cosines-are}

root-most : (v r q : ℕ) → r * r ≤ v → v < (q + 1) * (q + 1) → r ≤ q
root-most v r q below above = go (dec_le r q)
  where
    go : Dec (r ≤ q) → r ≤ q
    go (yes h) = h
    go (no h) = let more : q + 1 ≤ r = omega arith in absurd (omega (arith, mul-le-mul more more))

-- two squares, one after the other, enclose one number only
pub root-only : {v r q : ℕ} → Root v r → Root v q → r ≡ q
root-only {v} {r} {q} a b = omega (arith, root-most (v * 2 ^ 62) r q a.below b.above, root-most (v * 2 ^ 62) q r b.below a.above)

same-root : (f : ℕ → ℕ) {j k r q : ℕ} → j ≡ k → Root (f j) r → Root (f k) q → r ≡ q
same-root f {r = r} e a b = root-only (subst (λ (n : ℕ). Root (f n) r) e a) b

-- so the squares of document 01 enclose the nine cosines only
pub cosines-only : {cs : List ℕ} → Cosines cs → cs ≡ cosines
cosines-only {cs} c =
    let d = cosines-are in
    let plus : ℕ → ℕ = λ k. 2 * 2 ^ 62 + k in
    let minus : ℕ → ℕ = λ k. 2 * 2 ^ 62 - k in
    let s = root-only c.s-is d.s-is in
    let a = same-root plus s c.a-is d.a-is in
    let b = same-root minus s c.b-is d.b-is in
    let r1 = same-root plus a c.r1-is d.r1-is in
    let r3 = same-root plus b c.r3-is d.r3-is in
    let r5 = same-root minus b c.r5-is d.r5-is in
    let r7 = same-root minus a c.r7-is d.r7-is in
    c.are ∙ (λ i. 2 ^ 62 ∷ r1 i / 2 ∷ a i / 2 ∷ r3 i / 2 ∷ s i / 2 ∷ r5 i / 2 ∷ b i / 2 ∷ r7 i / 2 ∷ 0 ∷ []) ∙ sym d.are

-- A column that is loaded and passed over, by the steps of the code.
-- Assumes nothing.
use mathlib.Core.Path.{◌≡◌, sym, ap, ◌∙◌}
use mathlib.Core.List.{List, map}
use Prim.Native.Nat.{ℕ, ◌+◌, ◌^◌, ◌≤◌}
use lib.ListN.{length, get_or, length-map}
use lib.IntN.{ℤ, pos, nat_abs}
use mir.Syntax.{Width, w32}
use Rattle.std.proofs.lemmas.List.{map-id}
use Rattle.integers.specs.Fits16.{Fits16}
use Rattle.integers.specs.Linear.{transform}
use Rattle.lists.specs.Every.{Every}
use Rattle.lists.specs.Tab.{tab}
use Rattle.lists.proofs.Tab.{length-tab, map-get_d}
use Rattle.gains.specs.Gains.{gains}
use Rattle.scaling.specs.Scaling.{descaled}
use Rattle.passes.specs.Passes.{Size, eight, dc, pass, column_pass}
use Rattle.passes.proofs.Steps.{passed}
use Rattle.block.specs.Block.{column_of, without}
use Rattle.block.proofs.Column.{column-eight}
use Rattle.block.proofs.Exact.{fits-at-most}
use Rattle.block.proofs.Unread.{Ignores, skipping}

-- a pass, output by output
pub pass-read : (w : Width) (rows : List (List ℤ)) {n : ℕ} → length rows ≡ n → (s : ℕ) (p v : List ℤ) → map (λ z. z) v ≡ transform w rows (map (λ z. z) p) → tab n (λ i. descaled w (get_or v i (pos 0)) s) ≡ pass w rows s p
unfolding pass transform
pass-read w rows {n} l s p v e =
    let own : v ≡ transform w rows p = sym (map-id v) ∙ e ∙ ap (transform w rows) (map-id p) in
    map-get_d (λ x. descaled w x s) (pos 0) v n (ap length own ∙ length-map rows _ ∙ l) ∙ ap (map (λ x. descaled w x s)) own

-- a column of 16-bit numbers that is passed over without the zero shortcut: at 8 points
pub column-made : (xs : List ℤ) (u : ℕ) (q : List ℤ) {p r : List ℤ} → (p ≡ column_of xs u) × Every Fits16 p → map (λ z. z) q ≡ transform w32 gains (map (λ z. z) p) → r ≡ map (λ v. descaled w32 v 11) q → r ≡ column_pass eight (column_of xs u)
unfolding column_of
column-made xs u q {p} h e f = passed w32 gains 11 p q e f ∙ column-eight p (ap length h.0 ∙ length-tab 8 _) (fits-at-most h.1 0) ∙ ap (column_pass eight) h.0

-- at a size that skips the entries ks, which were not loaded
pub column-read : (z : Size) (ks : List ℕ) → ((p : List ℤ) → length p ≡ 8 → nat_abs (dc p) ≤ 2 ^ 15 → pass w32 z.matrix (11 + z.extra) p ≡ column_pass z p) → Ignores ks (column_pass z) →
    (xs : List ℤ) (u : ℕ) {p r : List ℤ} → (p ≡ without (pos 0) ks (column_of xs u)) × Every Fits16 p → r ≡ pass w32 z.matrix (11 + z.extra) p → r ≡ column_pass z (column_of xs u)
unfolding column_of without
column-read z ks full skips xs u {p} h e =
    e ∙ full p (ap length h.0 ∙ length-tab _ _ ∙ length-tab 8 _) (fits-at-most h.1 0) ∙ ap (column_pass z) h.0 ∙ skipping ks (column_pass z) skips (column_of xs u)

use Prim.Native.Nat.{ℕ, ◌+◌, ◌<◌}
use mathlib.Core.Path.{◌≡◌, sym, ap, ◌∙◌, subst}
use mathlib.Core.List.{List, [], ◌∷◌, ◌++◌}
use native.Mathlib.Numerals.{add-one}
use native.Mathlib.Omega.{arith}
use lib.ListN.{length, take, drop, get_or, take-append-drop}
use lib.Seq.{take-suc, take_all}
use Rattle.std.specs.Prelude.{Ok}
use Rattle.std.proofs.lemmas.Result.{err_from_is_err_and}
use Rattle.pgm.specs.Header.{header_of}
use Rattle.pgm.proofs.Steps.{Has, has_end, has_more, has_done, has_refused}
use Rattle.pgm.proofs.header_of.Goals as goal

next : (input : List ℕ) (i : ℕ) → i < length input → take i input ++ (get_or input i 0 ∷ []) ≡ take (i + 1) input
next input i h = rw add-one (sym (take-suc input i 0 h))

-- the input, as read and as left
whole : (input : List ℕ) (i : ℕ) → i < length input → header_of ((take i input ++ (get_or input i 0 ∷ [])) ++ drop (i + 1) input) ≡ header_of input
whole input i h = ap header_of (ap (λ (xs : List ℕ). xs ++ drop (i + 1) input) (next input i h) ∙ take-append-drop (i + 1) input)

pub loop-b-init : goal.loop-b-init
loop-b-init c = c.new-reader.ensures

pub returns-in_err-r : goal.returns-in_err-r
returns-in_err-r c =
    let p = err_from_is_err_and c.from_residual.result c.from_residual.ensures.1 in
    let input = c.args.input.now in
    let i = c.loop-b.b-index in
    rw (p.1, p.2) (has_refused _ (take i input) _ _ c.loop-b.invariant c.step.ensures _ c.in_err-r.was (drop (i + 1) input) ∙ whole input i (omega arith))

pub returns-in-Done : goal.returns-in-Done
returns-in-Done c =
    let input = c.args.input.now in
    let i = c.loop-b.b-index in
    has_done _ (take i input) _ _ c.loop-b.invariant c.step.ensures _ (c.in_ok-r.was ∙ ap Ok c.in-Done.is) (drop (i + 1) input) ∙ whole input i (omega arith)

pub loop-b-preserved : goal.loop-b-preserved
loop-b-preserved c =
    let input = c.args.input.now in
    let i = c.loop-b.b-index in
    subst (Has _) (next input i (omega arith)) (has_more _ (take i input) _ _ c.loop-b.invariant c.step.ensures _ (c.in_ok-r.was ∙ ap Ok c.in-More.is))

pub returns : goal.returns
returns c = let input = c.args.input.now in has_end _ (take c.loop-b.b-index input) c.loop-b.invariant ∙ ap header_of (take_all c.loop-b.b-index input (omega arith))

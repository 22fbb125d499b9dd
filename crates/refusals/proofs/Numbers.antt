-- No refusal has the number 0, and no two have the same: by its status a result's refusal is known. Assumes nothing.
use mathlib.Core.Path.{◌≡◌, refl, sym, ap, ◌∙◌}
use mathlib.Core.List.{[], ◌∷◌, ◌++◌}
use Prim.Native.Nat.{ℕ}
use lib.ListN.{get_or}
use native.Mathlib.Omega.{arith}
use lib.Dec.{T, ltb, ltb→lt}
use Rattle.refusals.specs.declared.Refusal.{Refusal}
use Rattle.refusals.specs.declared.Refusal.TheVariants.{Block, Table, Output, Index, ZeroQuantizer, Shift, Input, Measure, Samples, Picture, Percent, Sample, State, Full, Divisors, Heights, Seam}
use Rattle.std.specs.Prelude.{List, Result, Ok, Err}
use Rattle.refusals.specs.Refusals.{Test, status, written}
use Rattle.refusals.specs.Numbers.{number, Answer, answer, told}
use Rattle.refusals.proofs.Refusals.{Passed, passed, kept, wrote, numbered, after}

pub number-nonzero : (e : Refusal) → T (ltb 0 (number e))
number-nonzero Block = tt
number-nonzero Table = tt
number-nonzero Output = tt
number-nonzero Index = tt
number-nonzero ZeroQuantizer = tt
number-nonzero Shift = tt
number-nonzero Input = tt
number-nonzero Measure = tt
number-nonzero Samples = tt
number-nonzero Picture = tt
number-nonzero Percent = tt
number-nonzero Sample = tt
number-nonzero State = tt
number-nonzero Full = tt
number-nonzero Divisors = tt
number-nonzero Heights = tt
number-nonzero Seam = tt

-- the refusal of each number
abbrev refusal : ℕ → Refusal
refusal n = get_or
    (Seam ∷ Block ∷ Table ∷ Output ∷ Index ∷ ZeroQuantizer ∷ Shift ∷ Input ∷ Measure ∷ Samples ∷ Picture ∷ Percent ∷ Sample ∷ State ∷ Full
    ∷ Divisors ∷ Heights ∷ Seam ∷ [])
    n Seam

back : (e : Refusal) → refusal (number e) ≡ e
back Block = refl
back Table = refl
back Output = refl
back Index = refl
back ZeroQuantizer = refl
back Shift = refl
back Input = refl
back Measure = refl
back Samples = refl
back Picture = refl
back Percent = refl
back Sample = refl
back State = refl
back Full = refl
back Divisors = refl
back Heights = refl
back Seam = refl

pub numbers-differ : (d e : Refusal) → number d ≡ number e → d ≡ e
numbers-differ d e h = sym (back d) ∙ ap refusal h ∙ back e

-- a call that is not refused answers the value
pub accepted-ok : {A : Type 0} (ts : List Test) (value zero : A) {r : Result A Refusal} → Passed ts → told zero r ≡ answer ts value zero → r ≡ Ok value
accepted-ok ts value zero {r = Ok x} h e = ap (λ (a : Answer _). Ok a.value) e ∙ ap Ok (ap (λ (s : ℕ). written s value zero) (sym (passed ts h)) ∙ sym (wrote value zero refl refl))
accepted-ok ts value zero {r = Err d} h e =
    absurd (omega (arith, ltb→lt 0 (number d) (number-nonzero d), ap (λ (a : Answer _). a.status) e ∙ sym (passed ts h)))

-- what a result's cases say of such a call
pub ok-status : {A : Type 0} (ts : List Test) (value zero x : A) → told zero (Ok x) ≡ answer ts value zero → 0 ≡ status ts
ok-status ts value zero x e = ap (λ (a : Answer _). a.status) e

pub ok-value : {A : Type 0} (ts : List Test) (value zero x : A) → told zero (Ok x) ≡ answer ts value zero → x ≡ value
ok-value ts value zero x e = ap (λ (a : Answer _). a.value) e ∙ sym (wrote value zero (sym (ok-status ts value zero x e)) refl)

pub err-status : {A : Type 0} (ts : List Test) (value zero : A) (d : Refusal) → told zero (Err d) ≡ answer ts value zero → number d ≡ status ts
err-status ts value zero d e = ap (λ (a : Answer _). a.status) e

-- tests after tests: a call that the first ones refuse, and one that goes on to the others
pub stopped : (ts us : List Test) → T (numbered ts) → (d : Refusal) {r : ℕ} → r ≡ number d → number d ≡ status ts → r ≡ status (ts ++ us)
stopped ts us n d f e = f ∙ after ts us n e (kept (status us) (number d) (λ z. omega (arith, ltb→lt 0 (number d) (number-nonzero d), z)))

pub went-on : (ts us : List Test) → T (numbered ts) → 0 ≡ status ts → {s : ℕ} → s ≡ status us → s ≡ status (ts ++ us)
went-on ts us n e {s} f = after ts us n e (f ∙ wrote (status us) 0 refl refl)

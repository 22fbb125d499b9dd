use Prim.Native.Nat.{◌≤◌, ◌<◌}
use Rattle.fewest.specs.Blocks.{errors_in, counts_in, at_percent}
use Rattle.fewest.proofs.Growing.{error-in, count-in}
use Rattle.fewest.proofs.Searching.{not_good, first_good, better-good, worse-good}
use Rattle.fewest.proofs.choice.better_percent.Goals as goal

pub returns-then-all-p-clause-value : goal.returns-then-all-p-clause-value
unfolding at_percent
returns-then-all-p-clause-value c =
    let h : c.args.limit < at_percent (errors_in c.args.all.now) c.args.p = rw error-in c.if-all-p.true in
    not_good _ _ _ _ _ h

pub returns-in-Some-clause-value : goal.returns-in-Some-clause-value
unfolding at_percent
returns-in-Some-clause-value c =
    let all = c.args.all.now in
    let h : at_percent (errors_in all) c.args.p ≤ c.args.limit = rw error-in c.if-all-p.false in
    let l : at_percent (counts_in all) c.in-Some.q < at_percent (counts_in all) c.args.p = simp count-in c.if-all-q.true in
    rw c.in-Some.is (worse-good _ _ _ _ _ h l)

pub returns-in_default-clause-value : goal.returns-in_default-clause-value
unfolding at_percent
returns-in_default-clause-value c =
    let all = c.args.all.now in
    let h : at_percent (errors_in all) c.args.p ≤ c.args.limit = rw error-in c.if-all-p.false in
    let l : at_percent (counts_in all) c.args.p ≤ at_percent (counts_in all) c.in-Some.q = simp count-in c.if-all-q.false in
    let b = rw c.in-Some.is at c.requires.found_lt_p in
    rw c.in-Some.is (better-good _ _ _ _ _ b.1 h l)

pub returns-in_default-2-clause-value : goal.returns-in_default-2-clause-value
unfolding at_percent
returns-in_default-2-clause-value c =
    let h : at_percent (errors_in c.args.all.now) c.args.p ≤ c.args.limit = rw error-in c.if-all-p.false in
    rw c.in_default.is (first_good _ _ _ _ h)

use mathlib.Core.Path.{◌≡◌, sym, ap, ap₂, ◌∙◌}
use Prim.Native.Nat.{◌+◌, ◌-◌, ◌<◌}
use native.Mathlib.Omega.{arith}
use Rattle.fewest.specs.declared.Trial.{Trial}
use Rattle.fewest.proofs.Growing.{grew_none, grew-ahead, grew-more, grew-all, error-in, count-in, errors-set, counts-set, errors-long, counts-long}
use Rattle.fewest.proofs.totals.add_trials.Invariants.{at}
use Rattle.fewest.proofs.totals.add_trials.Goals as goal

pub loop-p-init : goal.loop-p-init
loop-p-init c = record {
  errors = grew_none _ _ (errors-long _ ∙ c.told-all);
  counts = grew_none _ _ (counts-long _ ∙ c.told-all);
  last = λ h. absurd (omega arith);
  small = (omega arith, omega arith);
}

pub overflow_add-all : goal.overflow_add-all
overflow_add-all c =
    let some : c.loop-p.p < 200 = omega arith in
    let held = grew-ahead c.loop-p.invariant.errors some in
    let read = error-in c.loop-p.all c.loop-p.p in
    record { fits = omega (arith, c.requires.room.errors-most c.loop-p.p, c.next_trial-trial.ensures.error_bound_2) }

pub overflow_add-all-in-loop-p : goal.overflow_add-all-in-loop-p
overflow_add-all-in-loop-p c =
    let some : c.loop-p.p < 200 = omega arith in
    let held = grew-ahead c.loop-p.invariant.counts some in
    let read = count-in c.loop-p.all c.loop-p.p in
    record { fits = omega (arith, c.requires.room.counts-most c.loop-p.p, c.next_trial-trial.ensures.error_bound_2) }

pub loop-p-preserved : goal.loop-p-preserved
loop-p-preserved c =
    let p = c.loop-p.p in
    let told = c.next_trial-trial.ensures in
    let inv = c.loop-p.invariant in
    let b = c.args.block.now in
    let some : p < 200 = omega arith in
    let last : p ≡ p + 1 - 1 = omega arith in
    record {
      errors = rw errors-set (grew-more inv.errors some (ap₂ ◌+◌ (sym (error-in c.loop-p.all p)) (c.from.ensures ∙ ap (λ (r : Trial). r.error) told.value)));
      counts = rw counts-set (grew-more inv.counts some (ap₂ ◌+◌ (sym (count-in c.loop-p.all p)) (c.from-in-loop-p.ensures ∙ ap (λ (r : Trial). r.count) told.value)));
      last = λ h. told.value ∙ ap (at b.columns b.rows b.block b.sums c.args.tables.now) last;
      small = told.error_bound_2;
    }

pub returns-clause-errors_after : goal.returns-clause-errors_after
returns-clause-errors_after c = grew-all c.loop-p.invariant.errors (omega arith)

pub returns-clause-counts_after : goal.returns-clause-counts_after
returns-clause-counts_after c = grew-all c.loop-p.invariant.counts (omega arith)

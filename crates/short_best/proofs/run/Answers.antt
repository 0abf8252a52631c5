-- `short_best::run` meets its contract.
use mathlib.Core.Path.{refl, ◌∙◌, ap}
use mathlib.Core.Logic.{inr}
use Prim.Native.Nat.{ℕ, ◌/◌, ◌≤◌}
use native.Mathlib.Omega.{arith}
use lib.Dec.{lit≤}
use lib.ListN.{length}
use borrow.Author.Rules.{rules}
use Rattle.viterbi_core.specs.CountLaws.{releases_le}
use Rattle.path_greatest.specs.Fresh.{start_values}
use Rattle.short_best.proofs.Steps.{all_counted, finished}
use Rattle.short_best.proofs.run.Goals as goal

pub soft_steps-end-requires : goal.soft_steps-end-requires
soft_steps-end-requires c =
    let start = c in
    let r = releases_le 128 0 (length start.args.metrics.now / 4) (lit≤ tt) in
    (start.requires.0, start.requires.1, start.requires.2, search rules, inr refl, omega arith, omega arith, omega arith, omega arith, refl, start.requires.4, omega arith)

pub finish_at-requires : goal.finish_at-requires
finish_at-requires c =
    let start = c in
    let a = start.args in
    let steps = c.soft_steps-end in
    let k = all_counted a.code a.h start.requires.2 a.start a.metrics.now a.decisions.now a.out.now c.begin.new.pm in
    let few = k.0 in
    let sum = k.1 in
    let eh = steps.ensures.held_is in
    let ec = steps.ensures.count_is in
    (start.requires.0, start.requires.1, c.best_state-best.ensures.0, omega arith, omega arith)

pub returns : goal.returns
returns c =
    let finish-at = c in
    let best-state = finish-at in
    let renormalise = best-state in
    let soft-steps = renormalise in
    let at-begin = soft-steps in
    let start = at-begin in
    let a = start.args in
    let begin = at-begin.begin in
    let steps = soft-steps.soft_steps-end in
    let low = renormalise.renormalise in
    let best = best-state.best_state-best in
    let end = finish-at.finish_at in
    finished a.code a.h start.requires.2 a.start a.metrics.now a.decisions.now a.out.now begin.new.pm _ low.new.pm steps.result.held steps.result.count best.result end.result _ _ _ _
    (begin.ensures ∙ ap (λ (n : ℕ). start_values n a.start) start.requires.3) steps.ensures low.ensures best.ensures.1 end.ensures.0 end.ensures.1 end.ensures.2

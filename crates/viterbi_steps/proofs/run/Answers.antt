use mathlib.Core.Path.{◌≡◌}
use Prim.Native.Nat.{◌+◌, ◌-◌, ◌≤◌}
use native.Mathlib.Omega.{arith}
use borrow.Author.Rules.{rules}
use Rattle.viterbi_steps.specs.Runs.{step_of, steps_of, lent_steps}
use Rattle.viterbi_steps.proofs.Turn.{ran_none, ran_more, ran_all}
use Rattle.viterbi_steps.proofs.run.Goals as goal

pub loop-k-init : goal.loop-k-init
loop-k-init c =
    let a = c.args in
    (search rules, ran_none (λ j. steps_of a.kind a.values.now a.bits.now (a.from + j)) a.pm.now a.words.now)

pub step_at-x-requires : goal.step_at-x-requires
step_at-x-requires c =
    let at = c in
    let start = at in
    let h : start.args.from + start.args.n ≤ lent_steps start.args.kind start.args.values.now start.args.bits.now = start.requires.1 in
    omega arith

pub loop-k-preserved : goal.loop-k-preserved
loop-k-preserved c =
    let made = c in
    let told = made in
    let at = told in
    let a = at.args in
    let h = at.loop-k.invariant.1.long in (
      omega arith,
      ran_more (λ j. steps_of a.kind a.values.now a.bits.now (a.from + j)) a.pm.now a.words.now at.loop-k.k at.loop-k.paths made.trellis_step-s.result.values at.loop-k.words made.trellis_step-s.result.word
          (step_of told.step_at-x.result) at.loop-k.invariant.1 (omega arith) told.step_at-x.ensures made.trellis_step-s.ensures.0 made.trellis_step-s.ensures.1,
    )

pub shape_of-words : goal.shape_of-words
shape_of-words c = c.loop-k.invariant.1.long

pub returns : goal.returns
returns c =
    let at = c in
    let a = at.args in
    let e : at.loop-k.k ≡ a.n = omega arith in
    ran_all (λ j. steps_of a.kind a.values.now a.bits.now (a.from + j)) a.pm.now a.words.now a.n at.loop-k.paths at.loop-k.words (search rules) (rw e at at.loop-k.invariant.1)

use mathlib.Core.Path.{◌≡◌, sym, ◌∙◌}
use Prim.Native.Nat.{◌-◌}
use native.Mathlib.Omega.{arith}
use lib.ListN.{length}
use Rattle.short_code.specs.Codes.{labels}
use Rattle.short_viterbi.specs.Soft.{soft_steps}
use Rattle.short_viterbi.proofs.Whole.{inside, begins, lengths, ready, goes_on}
use Rattle.short_viterbi.proofs.soft_steps.Goals as goal

pub loop-i-init : goal.loop-i-init
loop-i-init c =
    let start = c in
    let a = start.args in
    (omega arith, start.requires.3, rw start.requires.9 (begins a.s.h (labels a.s.code) (soft_steps a.per a.values.now) a.n a.s.traceback a.at.held a.pm.now a.decisions.now a.out.now start.requires.6 start.requires.7 start.requires.8 start.requires.10 start.requires.11))

pub soft_step-x-requires : goal.soft_step-x-requires
soft_step-x-requires c =
    let start = c in
    let a = start.args in
    (start.requires.4, inside a.per c.loop-i.i a.n (length a.values.now) start.requires.4 c.loop-i-test.true start.requires.5)

pub advance-place-requires : goal.advance-place-requires
advance-place-requires c =
    let at = c in
    let start = at in
    let a = start.args in
    let r = ready a.s.h (labels a.s.code) (soft_steps a.per a.values.now) a.n a.s.traceback a.at.held a.pm.now a.decisions.now a.out.now start.requires.6 start.requires.7 start.requires.8 start.requires.10 start.requires.11 at.loop-i.pm at.loop-i.place at.loop-i.decisions at.loop-i.out at.loop-i.i at.loop-i.invariant.2 (omega arith) in
    (start.requires.0, start.requires.1, start.requires.2, at.loop-i.invariant.1, r.0, r.1, r.2, r.3, r.4, r.5)

pub loop-i-preserved : goal.loop-i-preserved
loop-i-preserved c =
    let advance = c in
    let soft-step = advance in
    let at = soft-step in
    let start = at in
    let a = start.args in
    let stepped = advance.advance-place in
    let more = soft-step.loop-i-test.true in
    (omega arith, omega arith, goes_on a.s.h (labels a.s.code) (soft_steps a.per a.values.now) a.n a.s.traceback a.at.held a.pm.now a.decisions.now a.out.now start.requires.6 start.requires.7 start.requires.8 start.requires.10 start.requires.11 at.loop-i.pm at.loop-i.place at.loop-i.decisions at.loop-i.out at.loop-i.i at.loop-i.invariant.2 stepped.result stepped.new.pm _ _ (rw soft-step.soft_step-x.ensures at stepped.ensures))

pub shape_of-pm : goal.shape_of-pm
shape_of-pm c =
    let start = c in
    c.loop-i.invariant.1 ∙ sym start.requires.3

pub shape_of-decisions : goal.shape_of-decisions
shape_of-decisions c =
    let start = c in
    let a = start.args in
    let at = c in
    (lengths a.s.h (labels a.s.code) (soft_steps a.per a.values.now) a.n a.s.traceback a.at.held a.pm.now a.decisions.now a.out.now start.requires.6 start.requires.7 start.requires.8 start.requires.10 start.requires.11 at.loop-i.pm at.loop-i.place at.loop-i.decisions at.loop-i.out at.loop-i.i at.loop-i.invariant.2 at.loop-i.invariant.0).0

pub shape_of-out : goal.shape_of-out
shape_of-out c =
    let start = c in
    let a = start.args in
    let at = c in
    (lengths a.s.h (labels a.s.code) (soft_steps a.per a.values.now) a.n a.s.traceback a.at.held a.pm.now a.decisions.now a.out.now start.requires.6 start.requires.7 start.requires.8 start.requires.10 start.requires.11 at.loop-i.pm at.loop-i.place at.loop-i.decisions at.loop-i.out at.loop-i.i at.loop-i.invariant.2 at.loop-i.invariant.0).1

pub returns : goal.returns
returns c =
    let a = c.args in
    let at = c in
    let end : at.loop-i.i ≡ a.n = omega arith in
    rw end at at.loop-i.invariant.2

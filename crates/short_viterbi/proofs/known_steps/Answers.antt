use mathlib.Core.Path.{◌≡◌, refl, sym, ◌∙◌}
use Prim.Native.Nat.{◌-◌}
use native.Mathlib.Omega.{arith}
use lib.ListN.{length}
use Rattle.trellis.specs.Run.{known_steps}
use Rattle.short_code.specs.Codes.{labels}
use Rattle.short_viterbi.proofs.Whole.{begins, lengths, ready, goes_on}
use Rattle.short_viterbi.proofs.known_steps.Goals as goal

pub loop-i-init : goal.loop-i-init
loop-i-init c =
    let start = c in
    let a = start.args in
    (refl, omega arith, start.requires.3, rw start.requires.7 (begins a.s.h (labels a.s.code) (known_steps a.bits.now) (length a.bits.now) a.s.traceback a.at.held a.pm.now a.decisions.now a.out.now start.requires.4 start.requires.5 start.requires.6 start.requires.8 start.requires.9))

pub advance-place-requires : goal.advance-place-requires
advance-place-requires c =
    let at = c in
    let start = at in
    let a = start.args in
    let r = ready a.s.h (labels a.s.code) (known_steps a.bits.now) (length a.bits.now) a.s.traceback a.at.held a.pm.now a.decisions.now a.out.now start.requires.4 start.requires.5 start.requires.6 start.requires.8 start.requires.9 at.loop-i.pm at.loop-i.place at.loop-i.decisions at.loop-i.out at.loop-i.i at.loop-i.invariant.3 (omega arith) in
    (start.requires.0, start.requires.1, start.requires.2, at.loop-i.invariant.2, r.0, r.1, r.2, r.3, r.4, r.5)

pub loop-i-preserved : goal.loop-i-preserved
loop-i-preserved c =
    let advance = c in
    let tested = advance in
    let at = tested in
    let start = at in
    let a = start.args in
    let stepped = advance.advance-place in
    let more = tested.loop-i-test.true in
    (at.loop-i.invariant.0, omega arith, omega arith, goes_on a.s.h (labels a.s.code) (known_steps a.bits.now) (length a.bits.now) a.s.traceback a.at.held a.pm.now a.decisions.now a.out.now start.requires.4 start.requires.5 start.requires.6 start.requires.8 start.requires.9 at.loop-i.pm at.loop-i.place at.loop-i.decisions at.loop-i.out at.loop-i.i at.loop-i.invariant.3 stepped.result stepped.new.pm _ _ stepped.ensures)

pub shape_of-pm : goal.shape_of-pm
shape_of-pm c =
    let start = c in
    c.loop-i.invariant.2 ∙ sym start.requires.3

pub shape_of-decisions : goal.shape_of-decisions
shape_of-decisions c =
    let start = c in
    let a = start.args in
    let at = c in
    (lengths a.s.h (labels a.s.code) (known_steps a.bits.now) (length a.bits.now) a.s.traceback a.at.held a.pm.now a.decisions.now a.out.now start.requires.4 start.requires.5 start.requires.6 start.requires.8 start.requires.9 at.loop-i.pm at.loop-i.place at.loop-i.decisions at.loop-i.out at.loop-i.i at.loop-i.invariant.3 at.loop-i.invariant.1).0

pub shape_of-out : goal.shape_of-out
shape_of-out c =
    let start = c in
    let a = start.args in
    let at = c in
    (lengths a.s.h (labels a.s.code) (known_steps a.bits.now) (length a.bits.now) a.s.traceback a.at.held a.pm.now a.decisions.now a.out.now start.requires.4 start.requires.5 start.requires.6 start.requires.8 start.requires.9 at.loop-i.pm at.loop-i.place at.loop-i.decisions at.loop-i.out at.loop-i.i at.loop-i.invariant.3 at.loop-i.invariant.1).1

pub returns : goal.returns
returns c =
    let a = c.args in
    let at = c in
    let end : at.loop-i.i ≡ length a.bits.now = omega arith in
    rw end at at.loop-i.invariant.3

-- `short_viterbi::advance` meets its contract.
use mathlib.Core.Path.{◌≡◌}
use Prim.Native.Nat.{◌+◌, ◌-◌, ◌*◌}
use native.Mathlib.Omega.{arith}
use borrow.Author.Rules.{rules}
use lib.ListN.{take, set, length-set, length-drop}
use Rattle.trellis.specs.Step.{best, traced}
use Rattle.trellis.specs.Isdb.{rule}
use Rattle.viterbi_core.specs.Calls.{step_of}
use Rattle.viterbi_core.specs.StepLaws.{kept_step, released_step}
use Rattle.viterbi_core.specs.PartLaws.{tail_whole, written_tail}
use Rattle.short_code.specs.Codes.{labels}
use Rattle.short_viterbi.proofs.advance.Goals as goal

pub returns-then-held-s : goal.returns-then-held-s
returns-then-held-s c =
    let step = c in
    let start = step in
    let a = start.args in
    kept_step a.s.h (labels a.s.code) rule a.s.traceback a.i (step_of a.x) a.pm.now step.trellis_step-w.new.pm a.at.held a.at.count step.trellis_step-w.result a.decisions.now a.out.now
    (omega arith) step.trellis_step-w.ensures.0 step.trellis_step-w.ensures.1 c.if-held-s.true

pub release-requires : goal.release-requires
release-requires c =
    let trellis-step = c in
    let start = trellis-step in
    let a = start.args in
    let dec = a.decisions.now in
    let out = a.out.now in
    let w = trellis-step.trellis_step-w.result in
    let full : a.at.held + 1 ≡ 4096 + a.s.traceback = omega arith in
    let room = start.requires.9 full in (
      start.requires.0,
      start.requires.1,
      omega arith,
      start.requires.5,
      rw (length-set dec a.at.held w) start.requires.7,
      rw (tail_whole a.at.count out out out start.requires.8, length-drop a.at.count out) (omega arith),
    )

pub shape_of-decisions : goal.shape_of-decisions
shape_of-decisions c =
    let trellis-step = c in
    let start = trellis-step in
    let a = start.args in
    omega (arith, length-set a.decisions.now a.at.held trellis-step.trellis_step-w.result)

pub returns : goal.returns
returns c =
    let release = c in
    let step = release in
    let start = step in
    let freed = release.release in
    let a = start.args in
    let out = a.out.now in
    let dec = set a.decisions.now a.at.held step.trellis_step-w.result in
    released_step a.s.h (labels a.s.code) rule a.s.traceback a.i (step_of a.x) a.pm.now step.trellis_step-w.new.pm a.at.held a.at.count step.trellis_step-w.result a.decisions.now out
    (omega arith) step.trellis_step-w.ensures.0 step.trellis_step-w.ensures.1 freed.new.decisions _ (omega arith) freed.ensures.1
    (written_tail a.at.count out freed.new.out (take 4096 (traced a.s.h (take (4096 + a.s.traceback) dec) (best rule step.trellis_step-w.new.pm (2 * a.s.h - 1)))) (search rules) freed.ensures.0)

-- `short_fec::soft` meets its contract.
use mathlib.Core.Path.{◌≡◌, refl, ◌∙◌}
use native.Mathlib.Omega.{arith}
use Prim.Native.Nat.{◌-◌, ◌*◌, ◌/◌, ◌≤◌}
use Rattle.short_code.specs.Codes.{labels}
use Rattle.short_code.specs.CodeLaws.{good_length_lem}
use Rattle.short_fec.proofs.Whole.{left}
use mathlib.Core.Logic.{⊎_elim}
use lib.ListN.{length, take}
use lib.Seq.{length-take-le}
use Rattle.trellis.specs.Run.{pushed, holding}
use Rattle.trellis.specs.Isdb.{rule}
use Rattle.short_viterbi.specs.Soft.{soft_steps}
use Rattle.short_fec.proofs.soft.Goals as goal

pub half-h-requires : goal.half-h-requires
half-h-requires c = good_length_lem c.args.code c.requires.1

pub nonzero_div-count : goal.nonzero_div-count
nonzero_div-count c = ⊎_elim (λ e. rw e (omega arith)) (λ e. rw e (omega arith)) c.requires.0

pub soft_run-end-requires : goal.soft_run-end-requires
soft_run-end-requires c =
    let at-half = c in
    let start = at-half in
    let a = start.args in
    let half = at-half.half-h in
    let n = half.ensures.1 in
    let e = start.requires.2 in
    let long = c.states-all.ensures.1 in
    let taken : length (take (2 * half.result - 0) a.dec.pm) ≡ 2 * half.result = length-take-le (2 * half.result - 0) a.dec.pm (omega arith) ∙ omega arith in
    let whole : a.per * (length a.values.now / a.per) ≤ length a.values.now = ⊎_elim (λ e. rw e (omega arith)) (λ e. rw e (omega arith)) start.requires.0 in
    (half.ensures.0, n, half.ensures.2, taken, start.requires.0, whole, e.least, e.most, e.fewer, refl, e.fits, e.room)

pub returns : goal.returns
returns c =
    let soft-run = c in
    let states = soft-run in
    let at-half = states in
    let start = at-half in
    let a = start.args in
    let half = at-half.half-h in
    let end = soft-run.soft_run-end in
    let n = half.ensures.1 in
    let long = states.states-all.ensures.1 in
    let taken = length-take-le (2 * half.result - 0) a.dec.pm (omega arith) in
    left a.code half.result (2 * half.result - 0) a.dec (λ h m. pushed h (labels a.code) rule a.dec.traceback (soft_steps a.per a.values.now) (holding (take m a.dec.pm) a.dec.held a.decisions.now) (length a.values.now / a.per))
    end.new.pm end.result.held end.result.count a.decisions.now _ a.out.now _ half.ensures.2 (omega arith) (omega arith) end.ensures

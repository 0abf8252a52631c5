use mathlib.Core.Path.{◌≡◌, ◌∙◌}
use Prim.Native.Nat.{◌-◌}
use native.Mathlib.Omega.{arith}
use lib.ListN.{length}
use Rattle.trellis.specs.Step.{four}
use Rattle.viterbi_four.proofs.RowLaws.{row_cand}
use Rattle.viterbi_four.proofs.BothHalves.{both_none, both_more, both_values, both_word}
use Rattle.viterbi_four.proofs.acs4.Goals as goal

pub loop-j-init : goal.loop-j-init
loop-j-init c =
    let start = c in
    let long : length start.args.pm ≡ 64 = start.well_formed.0.1.0.1 in
    (omega arith, λ m rows. both_none start.args.pm (four m) start.args.pm long)

pub loop-j-preserved : goal.loop-j-preserved
loop-j-preserved c =
    let turn = c in
    let at = turn in
    let start = at in
    let pm = start.args.pm in
    let j = at.loop-j.j in
    let h = turn.loop-j-test.true in (
      omega arith,
      λ m rows.
          both_more pm (four m) j at.loop-j.values at.loop-j.low at.loop-j.high (at.loop-j.invariant.1 m rows) h _ _ _ _
          (row_cand m 0 0 pm _ j _ _ rows.0 h (omega arith) (omega arith), row_cand m 0 1 pm _ j _ _ rows.1 h (omega arith) (omega arith), c.larger.ensures, c.beats.ensures) _ _ _ _
          (row_cand m 1 0 pm _ j _ _ rows.2 h (omega arith) (omega arith), row_cand m 1 1 pm _ j _ _ rows.3 h (omega arith) (omega arith), c.larger-in-loop-j.ensures, c.beats-in-loop-j.ensures),
    )

pub returns : goal.returns
returns c =
    let at = c in
    let fourth = at in
    let third = fourth in
    let second = third in
    let first = second in
    let start = first in
    let e : at.loop-j.j ≡ 32 = omega arith in
    let both = (rw e at at.loop-j.invariant).1 start.args.m (first.row00-p.ensures, second.row01-q.ensures, third.row10-r.ensures, fourth.row11-s.ensures) in
    (both_values start.args.pm (four start.args.m) _ _ _ both, c.join.ensures ∙ both_word start.args.pm (four start.args.m) _ _ _ both)

use mathlib.Core.Path.{◌≡◌, refl, ◌∙◌}
use Prim.Native.Nat.{◌-◌}
use native.Mathlib.Omega.{arith}
use lib.Ieee.{neg, of_bits}
use Rattle.trellis.specs.Step.{top}
use Rattle.trellis.proofs.RunLaws.{top_more}
use Rattle.viterbi_peak.proofs.first_greatest.Goals as goal

pub loop-s-init : goal.loop-s-init
unfolding top of_bits neg
loop-s-init c = (omega arith, refl)

pub loop-s-preserved : goal.loop-s-preserved
loop-s-preserved c =
    let at = c in
    (omega arith, c.greater-t.ensures ∙ top_more at.args.pm.now at.loop-s.t at.loop-s.s at.loop-s.invariant.1)

pub returns : goal.returns
returns c =
    let inv = c.loop-s.invariant in
    let e : c.loop-s.s ≡ 64 = omega arith in
    (rw e at inv).1

use mathlib.Core.Path.{◌≡◌, refl, ◌∙◌}
use native.Mathlib.Omega.{arith}
use lib.ListN.{length}
use lib.Ieee.{neg, of_bits}
use Rattle.trellis.specs.Step.{top}
use Rattle.trellis.proofs.RunLaws.{top_more}
use Rattle.short_step.proofs.greatest.Goals as goal

pub loop-v-init : goal.loop-v-init
unfolding top of_bits neg
loop-v-init c = (omega arith, refl)

pub loop-v-preserved : goal.loop-v-preserved
loop-v-preserved c =
    let at = c in
    (omega arith, c.greater-t.ensures ∙ top_more at.args.pm.now at.loop-v.t at.loop-v.v-index at.loop-v.invariant.1)

pub returns : goal.returns
returns c =
    let at = c in
    let inv = at.loop-v.invariant in
    let e : at.loop-v.v-index ≡ length at.args.pm.now = omega arith in
    (rw e at inv).1

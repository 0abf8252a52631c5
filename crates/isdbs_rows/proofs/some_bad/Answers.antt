use Rattle.isdbs_rows.proofs.Rows.{some_more}
use Rattle.isdbs_rows.specs.DecodeRows.{some_of, bad_scale}
use native.Mathlib.Omega.{arith}
use mathlib.Core.Path.{◌≡◌, refl}
use Rattle.isdbs_rows.proofs.some_bad.Goals as goal

pub loop-s-init : goal.loop-s-init
unfolding some_of
loop-s-init c = refl

pub loop-s-preserved : goal.loop-s-preserved
loop-s-preserved c = some_more bad_scale c.args.scales c.loop-s.s-index c.loop-s.some c.bad_scale-some.result c.loop-s.invariant c.bad_scale-some.ensures

pub returns : goal.returns
returns c = let e : c.loop-s.s-index ≡ 7 = omega arith in rw e at c.loop-s.invariant

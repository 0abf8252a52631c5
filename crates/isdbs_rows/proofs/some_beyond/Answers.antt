use Rattle.isdbs_rows.proofs.Rows.{some_more}
use Rattle.isdbs_rows.specs.DecodeRows.{some_of}
use Rattle.ieee.specs.Within.{within}
use Rattle.std.proofs.lemmas.List.{get_or-take, length-take-le}
use native.Mathlib.Omega.{arith}
use lib.Ieee.{nan}
use mathlib.Core.Bool.{not}
use mathlib.Core.Path.{◌≡◌, refl}
use Rattle.isdbs_rows.proofs.some_beyond.Goals as goal

pub loop-x-init : goal.loop-x-init
unfolding some_of
loop-x-init c = refl

pub loop-x-preserved : goal.loop-x-preserved
loop-x-preserved c =
    let a = c.args in
    let h = rw (length-take-le a.n a.xs.now c.requires) at c.loop-x-test.true in
    let b = rw (get_or-take a.n a.xs.now c.loop-x.x-index nan h) at c.beyond-some.ensures in
    some_more (λ x. not (within a.limit x)) a.xs.now c.loop-x.x-index c.loop-x.some c.beyond-some.result c.loop-x.invariant b

pub returns : goal.returns
returns c =
    let l = length-take-le c.args.n c.args.xs.now c.requires in
    let e : c.loop-x.x-index ≡ c.args.n = omega arith in
    rw e at c.loop-x.invariant

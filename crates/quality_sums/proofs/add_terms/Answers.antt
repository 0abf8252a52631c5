use mathlib.Core.Path.{◌≡◌, refl}
use Prim.Native.Nat.{◌+◌, ◌-◌}
use native.Mathlib.Omega.{arith}
use native.Mathlib.Numerals.{add-one}
use lib.ListN.{get_or, set}
use mathlib.Core.List.{List}
use lib.Ieee.{Float, nan, binary64, add}
use borrow.Author.Rules.{rules}
use Rattle.quality_sums.specs.Adding.{added}
use Rattle.quality_sums.proofs.add_terms.Goals as goal

pub loop-n-init : goal.loop-n-init
unfolding added
loop-n-init c = (refl, refl)

pub loop-n-preserved : goal.loop-n-preserved
unfolding added
loop-n-preserved c =
    let a = c.args in
    let at = c.loop-n in
    let grow : (l : List Float) → l ≡ added a.terms a.at a.out.now at.n → set l (a.at + at.n) (add binary64 (get_or l (a.at + at.n) nan) (get_or a.terms at.n nan)) ≡ added a.terms a.at a.out.now (at.n + 1) =
    λ l e. rw (add-one at.n, e) refl in
    (search rules, grow at.out at.invariant.1)

pub returns : goal.returns
returns c =
    let e : c.loop-n.n ≡ 7 = omega arith in
    rw e at c.loop-n.invariant.1

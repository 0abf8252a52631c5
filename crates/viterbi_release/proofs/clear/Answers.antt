use mathlib.Core.Path.{◌≡◌, refl, ◌∙◌, ap}
use Prim.Native.Nat.{ℕ, ◌-◌, ◌<◌}
use native.Mathlib.Omega.{arith}
use borrow.Author.Rules.{rules}
use mathlib.Core.List.{List}
use lib.ListN.{length, set, length-set, length-replicate}
use borrow.Author.Fill.{fill_none, fill_more}
use Rattle.viterbi_release.proofs.clear.Goals as goal

pub loop-t-init : goal.loop-t-init
loop-t-init c = (search rules, fill_none c.args.decisions.now 0, refl)

pub loop-t-preserved : goal.loop-t-preserved
loop-t-preserved c =
    let at = c in
    let d = at.args.decisions.now in
    let t = at.loop-t.t in
    let inv = at.loop-t.invariant in
    let h : t < length d = omega arith in (
      omega arith,
      ap (λ (l : List ℕ). set l t 0) inv.1 ∙ fill_more t 0 d h,
      length-set at.loop-t.decisions t 0 ∙ inv.2,
    )

pub shape_of-decisions : goal.shape_of-decisions
shape_of-decisions c = c.loop-t.invariant.2

pub returns : goal.returns
returns c =
    let at = c in
    let e : at.loop-t.t ≡ at.args.n = omega arith in
    rw (length-replicate {A = ℕ} at.args.n 0) (rw e at at.loop-t.invariant.1)

use mathlib.Core.Path.{◌≡◌}
use Prim.Native.Nat.{ℕ, ◌-◌}
use native.Mathlib.Omega.{arith}
use native.Mathlib.Nat.{not-suc-le-zero}
use borrow.Author.Count.{below_more}
use borrow.Author.Rules.{rules}
use lib.ListN.{get_or}
use lib.Ieee.{nan}
use Rattle.decode_soft.specs.Range.{InRange}
use Rattle.decode_soft.proofs.Range.{and_true}
use Rattle.decode_soft.proofs.all_in_range.Goals as goal

pub loop-i-init : goal.loop-i-init
loop-i-init c = (search rules, λ h i l. absurd (not-suc-le-zero l))

pub loop-i-preserved : goal.loop-i-preserved
loop-i-preserved c =
    let at = c in (
      search rules,
      λ h.
          let b = and_true at.loop-i.all c.in_range-all.result h in
          below_more (λ (k : ℕ). InRange (get_or at.args.xs.now k nan)) at.loop-i.i (at.loop-i.invariant.1 b.0) (c.in_range-all.ensures b.1),
    )

pub returns : goal.returns
returns c =
    let at = c in
    let n : at.loop-i.i ≡ at.args.n = omega arith in
    λ e. rw n at (at.loop-i.invariant.1 e)

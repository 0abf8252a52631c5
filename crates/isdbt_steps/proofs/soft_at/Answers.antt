-- `isdbt_steps::soft_at` meets its contract.
use mathlib.Core.Path.{sym, ◌∙◌, ap}
use Prim.Native.Nat.{ℕ, ◌*◌, ◌/◌, ◌%◌}
use Rattle.isdbt_steps.specs.Soft.{sent_value}
use Rattle.isdbt_steps.proofs.Spread.{spread_found}
use Rattle.isdbt_steps.proofs.soft_at.Goals as goal

pub returns : goal.returns
returns c =
    let found = c in
    let start = c in
    let a = start.args in
    let base = a.n * (a.k / (2 * a.period)) in
    c.value_of.ensures
    ∙ ap (λ (w : ℕ). sent_value a.n a.llrs.now base w) found.sent_as.ensures
    ∙ sym (spread_found a.order.now a.llrs.now base a.n (a.k % (2 * a.period)) start.requires.1)

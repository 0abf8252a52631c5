use Rattle.std.proofs.Common.{◌≡◌, ◌∙◌, ◌+◌, ◌<◌, ℕ, Bool, ◌||◌, suc, sym, ap, arith, add-one, ltb, length, take, get_or}
use Rattle.strain_window.specs.Rows.{most_sum, sum_above}
use Rattle.strain_window.proofs.WindowLaws.{above_next, above_all}
use Rattle.strain_window.proofs.some_above.Goals as goal

pub loop-sum-preserved : goal.loop-sum-preserved
loop-sum-preserved c =
    let at = c in
    let xs = at.args.sums.now in
    let i = at.loop-sum.sum-index in
    let h : i < length xs = omega arith in
    rw (add-one i) (ap (λ (b : Bool). b || ltb most_sum (get_or xs i 0)) at.loop-sum.invariant ∙ sym (above_next xs i h))

pub returns : goal.returns
returns c =
    let at = c in
    let xs = at.args.sums.now in
    let e : at.loop-sum.sum-index ≡ length xs = omega arith in
    at.loop-sum.invariant ∙ ap (λ (k : ℕ). sum_above (take k xs)) e ∙ above_all xs

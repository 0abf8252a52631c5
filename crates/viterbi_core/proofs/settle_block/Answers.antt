-- `viterbi_core::settle_block` meets its contract.
use mathlib.Core.Path.{refl, sym, ◌∙◌}
use Rattle.viterbi_core.proofs.settle_block.Goals as goal

pub returns-then-is_due : goal.returns-then-is_due
returns-then-is_due c =
    let test = c in
    rw (sym test.is_due.ensures ∙ test.if-is_due.true) c.renormalise.ensures

pub returns-else-is_due : goal.returns-else-is_due
returns-else-is_due c = rw (sym c.is_due.ensures ∙ c.if-is_due.false) refl

-- `short_viterbi::soft_step` meets its contract.
use mathlib.Core.Path.{refl, ◌∙◌}
use Prim.Native.Nat.{◌-◌}
use mathlib.Core.Logic.{⊎_elim}
use borrow.Author.Tests.{eq-eqb, ne_eqb}
use Rattle.short_viterbi.proofs.soft_step.Goals as goal

pub pair_step-requires : goal.pair_step-requires
pair_step-requires c = rw c.if-per-eq2.true at c.requires.1

pub four_step-requires : goal.four_step-requires
four_step-requires c = ⊎_elim (λ e. absurd (c.if-per-eq2.false e)) (λ e. rw e at c.requires.1) c.requires.0

pub returns-then-per-eq2 : goal.returns-then-per-eq2
returns-then-per-eq2 c = c.pair_step.ensures ∙ rw (eq-eqb c.args.per 2 c.if-per-eq2.true) refl

pub returns-else-per-eq2 : goal.returns-else-per-eq2
returns-else-per-eq2 c = c.four_step.ensures ∙ rw (ne_eqb c.args.per 2 c.if-per-eq2.false) refl

-- `viterbi_core::depth_of` meets its contract.
use mathlib.Core.Path.{refl}
use borrow.Author.Tests.{eq-eqb, ne_eqb}
use Rattle.viterbi_core.proofs.depth_of.Goals as goal

pub returns-then-traceback-eq0 : goal.returns-then-traceback-eq0
returns-then-traceback-eq0 c = rw (eq-eqb c.args.traceback 0 c.if-traceback-eq0.true) refl

pub returns-else-traceback-eq0 : goal.returns-else-traceback-eq0
returns-else-traceback-eq0 c = rw (ne_eqb c.args.traceback 0 c.if-traceback-eq0.false) refl

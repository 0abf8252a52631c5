-- `value` meets its contract.
use Prim.Native.Nat.{◌%◌}
use native.Mathlib.Omega.{arith}
use borrow.Author.Tests.{leb-true}
use Rattle.cases_best_content.proofs.Laws.{whole_up}
use Rattle.cases_best_content.proofs.value.Goals as goal

pub returns-then-side-lt16 : goal.returns-then-side-lt16
returns-then-side-lt16 c = λ t. let h = leb-true 16 c.args.side t in absurd (omega arith)

pub returns-else-side-lt16 : goal.returns-else-side-lt16
returns-else-side-lt16 c = λ t. whole_up (c.args.m % 16) (omega arith)

-- `times` is safe: both factors are bounded.
use native.Mathlib.Nat.{lt_of_le_of_lt, mul-le-mul}
use lib.Dec.{lit<}
use borrow.Author.Rules.{rules}
use Rattle.cases_core.proofs.times.Goals as goal

pub overflow_mul-result : goal.overflow_mul-result
overflow_mul-result c = record { fits = lt_of_le_of_lt (mul-le-mul {n₂ = 1624} {m₂ = 48} (search rules) (search rules)) (lit< tt) }

-- `round_shift` meets its contract.
use borrow.Author.Rules.{rules}
use Prim.Native.Nat.{◌*◌, ◌%◌, ◌^◌}
use native.Mathlib.Omega.{arith}
use Rattle.ieee_cast.specs.ShiftLaws.{closest_up, closest_down, unit_is, unit_pos, rest_lt, kept_le}
use Rattle.ieee_cast.proofs.round_shift.Goals as goal

pub nonzero_rem-rest : goal.nonzero_rem-rest
nonzero_rem-rest c = unit_pos c.args.d (search rules)

pub overflow_mul-rest : goal.overflow_mul-rest
overflow_mul-rest c = let r = rest_lt c.args.q c.args.d (search rules) in record { fits = omega arith }

pub overflow_add-rest : goal.overflow_add-rest
overflow_add-rest c = let r = rest_lt c.args.q c.args.d (search rules) in record { fits = omega arith }

pub overflow_add-result : goal.overflow_add-result
overflow_add-result c = let k = kept_le c.args.q c.args.d in record { fits = omega arith }

pub returns-then-rest-kept : goal.returns-then-rest-kept
returns-then-rest-kept c = closest_up c.args.q (2 ^ c.args.d) (1 * 2 ^ c.args.d % 18446744073709551616) (unit_is c.args.d (search rules)) c.if-rest-kept.true

pub returns-else-rest-kept : goal.returns-else-rest-kept
returns-else-rest-kept c = closest_down c.args.q (2 ^ c.args.d) (1 * 2 ^ c.args.d % 18446744073709551616) (unit_is c.args.d (search rules)) c.if-rest-kept.false

-- `same_bits` meets its contract.
use Rattle.std.proofs.Common.{◌≡◌, sym, subst, T, not, rules}
use lib.Ieee.{is_nan}
use Rattle.wanted_match.specs.Alike.{Same}
use Rattle.wanted_match.proofs.Compare.{equal_first, equal_second, same_bits, same_unequal}
use Rattle.wanted_match.proofs.same_bits.Goals as goal

pub float_to_bits-result : goal.float_to_bits-result
float_to_bits-result c =
    let x : T (not (is_nan c.args.x)) = equal_first c.args.x c.args.y c.if-x-y.true in
    search rules

pub float_to_bits-result-then-x-y : goal.float_to_bits-result-then-x-y
float_to_bits-result-then-x-y c =
    let x : T (not (is_nan c.args.x)) = equal_first c.args.x c.args.y c.if-x-y.true in
    let y : T (not (is_nan c.args.y)) = equal_second c.args.x c.args.y c.if-x-y.true in
    search rules

pub returns-then-x-y : goal.returns-then-x-y
returns-then-x-y c = same_bits c.args.x c.args.y (subst T (sym c.well_formed.0.1) tt) (subst T (sym c.well_formed.1.0.1) tt)

pub returns-else-x-y : goal.returns-else-x-y
returns-else-x-y c = subst (Same c.args.x c.args.y) (sym c.if-x-y.false) (same_unequal c.args.x c.args.y c.if-x-y.false)

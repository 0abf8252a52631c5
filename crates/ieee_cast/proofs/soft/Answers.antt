-- `soft` meets its contract.
use mathlib.Core.Path.{sym, ap, subst}
use Prim.Native.Nat.{◌/◌}
use native.Mathlib.Omega.{arith}
use lib.Dec.{T}
use lib.Ieee.{Float, binary32, binary64, div, of_bits, to_bits}
use lib.Ieee.Compare.{differs_from_itself}
use Rattle.ieee.proofs.Bits.{number}
use Rattle.ieee.specs.Conversion.{rounded}
use Rattle.ieee_cast.specs.SignLaws.{at_most_inf, pattern_ok, sign_lt, whole}
use Rattle.ieee_cast.proofs.soft.Goals as goal

pub returns-then-x : goal.returns-then-x
unfolding div of_bits rounded
returns-then-x c = ap (λ (x : Float). rounded binary32 x) (sym (differs_from_itself c.args.x (subst T (sym c.if-x.true) tt)))

pub float_to_bits-bits : goal.float_to_bits-bits
float_to_bits-bits c = number c.args.x c.if-x.false

pub narrowed-magnitude-requires : goal.narrowed-magnitude-requires
narrowed-magnitude-requires c = at_most_inf c.args.x (subst T (sym c.well_formed.0.1) tt) (number c.args.x c.if-x.false)

pub overflow_mul-result : goal.overflow_mul-result
overflow_mul-result c = let s = sign_lt c.args.x (subst T (sym c.well_formed.0.1) tt) in record { fits = omega arith }

pub overflow_add-result : goal.overflow_add-result
overflow_add-result c = let s = sign_lt c.args.x (subst T (sym c.well_formed.0.1) tt) in let n = c.narrowed-magnitude.ensures.small in record { fits = omega arith }

pub overflow_cast-result : goal.overflow_cast-result
overflow_cast-result c = let s = sign_lt c.args.x (subst T (sym c.well_formed.0.1) tt) in let n = c.narrowed-magnitude.ensures.small in record { fits = omega arith }

pub float_from_bits-result : goal.float_from_bits-result
float_from_bits-result c = pattern_ok (to_bits binary64 c.args.x / 9223372036854775808) c.narrowed-magnitude.result c.narrowed-magnitude.ensures.small

pub returns : goal.returns
returns c = whole c.args.x c.narrowed-magnitude.result (subst T (sym c.well_formed.0.1) tt) c.narrowed-magnitude.ensures

-- `encode_input` meets its contract.
use native.Mathlib.Omega.{arith}
use Prim.Native.Nat.{◌%◌, ◌<◌}
use native.Mathlib.Nat.{mod-lt}
use lib.Dec.{lit<}
use Rattle.trellis.specs.Code.{label, isdb}
use Rattle.trellis.proofs.RunLaws.{output_bit_lem}
use Rattle.encode_bits.proofs.encode_input.Goals as goal

pub overflow_mul-label : goal.overflow_mul-label
overflow_mul-label c = omega (arith, output_bit_lem isdb 121 (c.args.u % 2) c.args.state, c.encode_bit-c.ensures.0)

pub overflow_add-label : goal.overflow_add-label
overflow_add-label c = omega (arith, output_bit_lem isdb 121 (c.args.u % 2) c.args.state, output_bit_lem isdb 91 (c.args.u % 2) c.args.state, c.encode_bit-c.ensures.0, c.encode_bit-c.ensures.1)

pub returns : goal.returns
unfolding label
returns c =
    let s = c.args.state in
    let u = c.args.u % 2 in
    let e = c.encode_bit-c.ensures in
    let su : u < 2 = mod-lt _ (lit< tt) in
    let sx = output_bit_lem isdb 121 u s in
    let sy = output_bit_lem isdb 91 u s in
    (rw (e.0, e.1), e.2, omega (arith, c.requires, e.2), omega (arith, e.0, e.1))

-- `mend_distance::way` meets its contract.
use Prim.Native.Nat.{◌+◌, ◌*◌, ◌/◌, ◌%◌}
use native.Mathlib.Omega.{arith}
use Rattle.mend_distance.proofs.Ways.{way_is}
use Rattle.trellis.proofs.RunLaws.{output_bit_lem}
use Rattle.trellis.specs.Code.{isdb}
use Rattle.mend_distance.proofs.way.Goals as goal

pub overflow_add-result : goal.overflow_add-result
overflow_add-result c = let a = c.args in let s = output_bit_lem isdb 0o171 (a.k / 32 % 2) (2 * (a.k % 32) + a.b) in omega arith

pub overflow_add-result-2 : goal.overflow_add-result-2
overflow_add-result-2 c = let a = c.args in let h = c.requires.4 (2 * (a.k % 32) + a.b) in omega arith

pub overflow_add-result-3 : goal.overflow_add-result-3
overflow_add-result-3 c = let a = c.args in let s = output_bit_lem isdb 0o133 (a.k / 32 % 2) (2 * (a.k % 32) + a.b) in omega arith

pub overflow_add-result-4 : goal.overflow_add-result-4
overflow_add-result-4 c = let a = c.args in let h = c.requires.4 (2 * (a.k % 32) + a.b) in omega arith

pub returns : goal.returns
returns c =
    let start = c in
    let a = start.args in
    let sent = c.encode_bit-sent in
    way_is a.d.now a.k a.b a.x a.y sent.result.x sent.result.y start.requires.0 start.requires.2 start.requires.3 sent.ensures.0 sent.ensures.1

-- `window_mark` meets its contract.
use native.Mathlib.Omega.{arith}
use Rattle.decode_strain.proofs.window_mark.Goals as goal

pub odd-requires : goal.odd-requires
odd-requires c =
    let start = c in
    let p = start.requires.1 in
    (p _ (omega arith), p _ (omega arith), p _ (omega arith), p _ (omega arith), p _ (omega arith))

pub odd-requires-2 : goal.odd-requires-2
odd-requires-2 c =
    let start = c in
    let p = start.requires.1 in
    (p _ (omega arith), p _ (omega arith), p _ (omega arith), p _ (omega arith), p _ (omega arith))

pub returns : goal.returns
returns c =
    (rw (c.odd.ensures, c.odd-2.ensures) at c.pair_bit.ensures.0, c.pair_bit.ensures.1)

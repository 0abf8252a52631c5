-- `decode_bytes::plain_byte` meets its contract.
use native.Mathlib.Omega.{arith}
use Rattle.decode_bytes.proofs.plain_byte.Goals as goal

pub nibble-high-requires : goal.nibble-high-requires
nibble-high-requires c =
    let p = c.requires.1 in
    (p 0 (omega arith), p 1 (omega arith), p 2 (omega arith), p 3 (omega arith))

pub nibble-low-requires : goal.nibble-low-requires
nibble-low-requires c =
    let start = c in
    let p = start.requires.1 in
    (p 4 (omega arith), p 5 (omega arith), p 6 (omega arith), p 7 (omega arith))

pub overflow_mul-result : goal.overflow_mul-result
overflow_mul-result c =
    let nibble = c in
    let st = nibble in
    let p = st.requires.1 in
    let b0 = p 0 (omega arith) in
    let b1 = p 1 (omega arith) in
    let b2 = p 2 (omega arith) in
    let b3 = p 3 (omega arith) in
    let b4 = p 4 (omega arith) in
    let b5 = p 5 (omega arith) in
    let b6 = p 6 (omega arith) in
    let b7 = p 7 (omega arith) in
    let high = nibble.nibble-high.ensures in
    let low = c.nibble-low.ensures in
    record { fits = omega arith }

pub overflow_add-result : goal.overflow_add-result
overflow_add-result c =
    let nibble = c in
    let st = nibble in
    let p = st.requires.1 in
    let b0 = p 0 (omega arith) in
    let b1 = p 1 (omega arith) in
    let b2 = p 2 (omega arith) in
    let b3 = p 3 (omega arith) in
    let b4 = p 4 (omega arith) in
    let b5 = p 5 (omega arith) in
    let b6 = p 6 (omega arith) in
    let b7 = p 7 (omega arith) in
    let high = nibble.nibble-high.ensures in
    let low = c.nibble-low.ensures in
    record { fits = omega arith }

pub returns : goal.returns
returns c =
    let nibble = c in
    let st = nibble in
    let p = st.requires.1 in
    let b0 = p 0 (omega arith) in
    let b1 = p 1 (omega arith) in
    let b2 = p 2 (omega arith) in
    let b3 = p 3 (omega arith) in
    let b4 = p 4 (omega arith) in
    let b5 = p 5 (omega arith) in
    let b6 = p 6 (omega arith) in
    let b7 = p 7 (omega arith) in
    let high = nibble.nibble-high.ensures in
    let low = c.nibble-low.ensures in
    omega arith

-- `six_state` meets its contract.
use mathlib.Core.Path.{sym}
use native.Mathlib.Omega.{arith}
use Rattle.decode_bytes.specs.SixLaws.{six_bits}
use Rattle.decode_bytes.proofs.six_state.Goals as goal

pub overflow_mul-result : goal.overflow_mul-result
overflow_mul-result c =
    let p = c.requires.1 in
    let b0 = p 0 (omega arith) in
    let b1 = p 1 (omega arith) in
    let b2 = p 2 (omega arith) in
    let b3 = p 3 (omega arith) in
    let b4 = p 4 (omega arith) in
    let b5 = p 5 (omega arith) in
    record { fits = omega arith }

pub overflow_mul-result-2 : goal.overflow_mul-result-2
overflow_mul-result-2 c =
    let p = c.requires.1 in
    let b0 = p 0 (omega arith) in
    let b1 = p 1 (omega arith) in
    let b2 = p 2 (omega arith) in
    let b3 = p 3 (omega arith) in
    let b4 = p 4 (omega arith) in
    let b5 = p 5 (omega arith) in
    record { fits = omega arith }

pub overflow_add-result : goal.overflow_add-result
overflow_add-result c =
    let p = c.requires.1 in
    let b0 = p 0 (omega arith) in
    let b1 = p 1 (omega arith) in
    let b2 = p 2 (omega arith) in
    let b3 = p 3 (omega arith) in
    let b4 = p 4 (omega arith) in
    let b5 = p 5 (omega arith) in
    record { fits = omega arith }

pub overflow_mul-result-3 : goal.overflow_mul-result-3
overflow_mul-result-3 c =
    let p = c.requires.1 in
    let b0 = p 0 (omega arith) in
    let b1 = p 1 (omega arith) in
    let b2 = p 2 (omega arith) in
    let b3 = p 3 (omega arith) in
    let b4 = p 4 (omega arith) in
    let b5 = p 5 (omega arith) in
    record { fits = omega arith }

pub overflow_add-result-2 : goal.overflow_add-result-2
overflow_add-result-2 c =
    let p = c.requires.1 in
    let b0 = p 0 (omega arith) in
    let b1 = p 1 (omega arith) in
    let b2 = p 2 (omega arith) in
    let b3 = p 3 (omega arith) in
    let b4 = p 4 (omega arith) in
    let b5 = p 5 (omega arith) in
    record { fits = omega arith }

pub overflow_mul-result-4 : goal.overflow_mul-result-4
overflow_mul-result-4 c =
    let p = c.requires.1 in
    let b0 = p 0 (omega arith) in
    let b1 = p 1 (omega arith) in
    let b2 = p 2 (omega arith) in
    let b3 = p 3 (omega arith) in
    let b4 = p 4 (omega arith) in
    let b5 = p 5 (omega arith) in
    record { fits = omega arith }

pub overflow_add-result-3 : goal.overflow_add-result-3
overflow_add-result-3 c =
    let p = c.requires.1 in
    let b0 = p 0 (omega arith) in
    let b1 = p 1 (omega arith) in
    let b2 = p 2 (omega arith) in
    let b3 = p 3 (omega arith) in
    let b4 = p 4 (omega arith) in
    let b5 = p 5 (omega arith) in
    record { fits = omega arith }

pub overflow_mul-result-5 : goal.overflow_mul-result-5
overflow_mul-result-5 c =
    let p = c.requires.1 in
    let b0 = p 0 (omega arith) in
    let b1 = p 1 (omega arith) in
    let b2 = p 2 (omega arith) in
    let b3 = p 3 (omega arith) in
    let b4 = p 4 (omega arith) in
    let b5 = p 5 (omega arith) in
    record { fits = omega arith }

pub overflow_add-result-4 : goal.overflow_add-result-4
overflow_add-result-4 c =
    let p = c.requires.1 in
    let b0 = p 0 (omega arith) in
    let b1 = p 1 (omega arith) in
    let b2 = p 2 (omega arith) in
    let b3 = p 3 (omega arith) in
    let b4 = p 4 (omega arith) in
    let b5 = p 5 (omega arith) in
    record { fits = omega arith }

pub overflow_add-result-5 : goal.overflow_add-result-5
overflow_add-result-5 c =
    let p = c.requires.1 in
    let b0 = p 0 (omega arith) in
    let b1 = p 1 (omega arith) in
    let b2 = p 2 (omega arith) in
    let b3 = p 3 (omega arith) in
    let b4 = p 4 (omega arith) in
    let b5 = p 5 (omega arith) in
    record { fits = omega arith }

pub returns : goal.returns
returns c =
    let st = c in
    let p = st.requires.1 in
    let b0 = p 0 (omega arith) in
    let b1 = p 1 (omega arith) in
    let b2 = p 2 (omega arith) in
    let b3 = p 3 (omega arith) in
    let b4 = p 4 (omega arith) in
    let b5 = p 5 (omega arith) in
    (omega arith, λ s h. sym (six_bits s st.args.bits.now h p))

-- `load_bits` meets its contract.
use mathlib.Core.Path.{◌≡◌, ◌∙◌}
use Prim.Native.Nat.{ℕ, ◌+◌, ◌*◌, ◌/◌, ◌%◌, ◌^◌, ◌<◌}
use native.Mathlib.Nat.{one-mul}
use native.Mathlib.Omega.{arith}
use lib.Dec.{lit<}
use lib.ListN.{get_or}
use lib.Pow.{pow_pos, shl_exact}
use Rattle.encode_bits.proofs.Digits.{load_digits}
use Rattle.encode_bits.proofs.load_bits.Goals as goal

power : (n : ℕ) → n < 64 → (1 * 2 ^ n) % 18446744073709551616 ≡ 2 ^ n
power n h = shl_exact {a = 1} 1 n 64 (lit< tt) (omega arith) ∙ one-mul (2 ^ n)

pub nonzero_rem-result-2 : goal.nonzero_rem-result-2
nonzero_rem-result-2 c = rw (power c.args.n (omega arith)) (pow_pos c.args.n)

pub returns : goal.returns
returns c =
    let st = c in
    let bytes = st.args.bytes.now in
    let bit = st.args.bit in
    let n = st.args.n in
    let small : get_or bytes (bit / 8 + 1) 0 < 256 = rw (← c.load_byte-2.ensures) (omega arith) in
    rw (power n (omega arith), c.load_byte.ensures, c.load_byte-2.ensures) (load_digits bytes bit n st.requires.0 small)

-- `encode_period` meets its contract.
use mathlib.Core.Path.{◌≡◌}
use Prim.Native.Nat.{ℕ, ◌+◌, ◌*◌, ◌%◌, ◌^◌, ◌<◌, ◌≤◌}
use native.Mathlib.Nat.{mod-lt}
use native.Mathlib.Omega.{arith}
use lib.Dec.{lit<}
use lib.Pow.{shl_exact}
use Rattle.encode_bits.specs.Bits.{plain_inputs}
use Rattle.encode_run.proofs.Windowed.{joined_small, joined_state, joined_bit}
use Rattle.encode_run.proofs.encode_period.Goals as goal

shifted : (s n : ℕ) → s < 64 → n ≤ 8 → (s * 2 ^ n) % 18446744073709551616 ≡ s * 2 ^ n
shifted s n h l = shl_exact {a = s} 6 n 64 h (omega arith)

pub overflow_add-z : goal.overflow_add-z
overflow_add-z c =
    let st = c in
    let small = joined_small st.args.start st.args.n c.load_bits.result (plain_inputs st.args.bytes.now st.args.bit st.args.n) c.load_bits.ensures st.requires.0 st.requires.1 in
    rw (shifted st.args.start st.args.n st.requires.0 st.requires.1) (omega arith)

pub returns : goal.returns
returns c =
    let st = c in
    let us = plain_inputs st.args.bytes.now st.args.bit st.args.n in
    let u = c.load_bits.result in
    let d = c.load_bits.ensures in
    rw (c.outputs.ensures, shifted st.args.start st.args.n st.requires.0 st.requires.1) (
    record {
      small = mod-lt (st.args.start * 2 ^ st.args.n + u) (lit< tt);
      state_is = joined_state st.args.start st.args.n u us d st.requires.0 st.requires.1;
      bits_are = joined_bit st.args.start st.args.n u us d st.requires.0 st.requires.1;
    }
    )

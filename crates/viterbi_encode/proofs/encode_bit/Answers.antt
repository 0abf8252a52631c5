-- `viterbi_encode::encode_bit` meets its contract: by a test of both inputs at all states.
use mathlib.Core.Path.{◌≡◌}
use mathlib.Core.Bool.{Bool}
use Prim.Native.Nat.{ℕ, ◌+◌, ◌*◌, ◌/◌, ◌%◌, ◌^◌, ◌<◌}
use native.Mathlib.Omega.{arith}
use lib.Bits.{bit_xor}
use lib.Dec.{T, eqb, eqb→eq}
use borrow.Author.Rules.{rules}
use Rattle.trellis.specs.Code.{isdb, output, tapped}
use Rattle.trellis.specs.EachLaws.{all, each}
use Rattle.viterbi_encode.proofs.encode_bit.Goals as goal

-- of w = 64 u + s: bit s of the outputs for the input 0, exclusive-or the input u
abbrev found : ℕ → ℕ → ℕ
found outputs w = bit_xor (outputs / 2 ^ (w % 64) % 2) (w / 64)

abbrev same : ℕ → ℕ → ℕ → Bool
same outputs g w = eqb (found outputs w) (output isdb g (w / 64) (w % 64))

right : (outputs g : ℕ) → T (all 128 (same outputs g)) → (w : ℕ) → w < 128 → found outputs w ≡ output isdb g (w / 64) (w % 64)
right outputs g t w h = eqb→eq (found outputs w) (output isdb g (w / 64) (w % 64)) (each 128 (same outputs g) t w h)

pub returns : goal.returns
unfolding output tapped
returns c =
    let s = c.args.state in
    let u = c.args.u % 2 in
    let h : u * 64 + s < 128 = search rules in
    let top : (u * 64 + s) / 64 ≡ u = omega arith in
    let rest : (u * 64 + s) % 64 ≡ s = omega arith in (
      rw (top, rest) at (right 0x55aa_aa55_aa55_55aa 121 tt (u * 64 + s) h),
      rw (top, rest) at (right 0x6699_9966_6699_9966 91 tt (u * 64 + s) h),
      omega arith,
    )

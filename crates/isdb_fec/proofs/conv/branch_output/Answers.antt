-- `conv::branch_output` meets its contract: by a test of both inputs at all states.
use mathlib.Core.Path.{◌≡◌, refl, ◌∙◌}
use mathlib.Core.Bool.{Bool}
use Prim.Native.Nat.{ℕ, ◌+◌, ◌*◌, ◌/◌, ◌%◌, ◌<◌}
use native.Mathlib.Omega.{arith}
use lib.Bits.{bit_and}
use lib.Dec.{T, eqb, eqb→eq}
use borrow.Author.Tests.{lt-ltb, le-ltb}
use Rattle.trellis.specs.Code.{isdb, output, tapped}
use Rattle.trellis.specs.Parity.{ones}
use Rattle.trellis.specs.EachLaws.{all, each}
use Rattle.isdb_fec.proofs.conv.branch_output.Goals as goal

-- of w = 64 u + s: the parity under the generator g, and its output
abbrev same : ℕ → ℕ → Bool
same g w = eqb (ones 8 (bit_and w g) % 2) (output isdb g (w / 64) (w % 64))

right : (g : ℕ) → T (all 128 (same g)) → (w u s : ℕ) → w ≡ 64 * u + s → s < 64 → u < 2 → ones 8 (bit_and w g) % 2 ≡ output isdb g u s
right g t w u s e h k =
    let top : w / 64 ≡ u = omega arith in
    let rest : w % 64 ≡ s = omega arith in
    rw (top, rest) at (eqb→eq (ones 8 (bit_and w g) % 2) (output isdb g (w / 64) (w % 64)) (each 128 (same g) t w (omega arith)))

pub returns-then-state-ge-STATES : goal.returns-then-state-ge-STATES
returns-then-state-ge-STATES c = record { answers = rw (lt-ltb 63 c.args.state (omega arith)) refl; outputs = tt }

pub returns : goal.returns
unfolding output tapped ones
returns c =
    let a = c.args in
    let h : a.state < 64 = omega arith in
    let w : (a.u % 2 * 64) % 256 + a.state ≡ 64 * (a.u % 2) + a.state = omega arith in record {
      answers = rw (le-ltb 63 a.state (omega arith)) refl;
      outputs = (
        c.parity.ensures ∙ right 121 tt ((a.u % 2 * 64) % 256 + a.state) (a.u % 2) a.state w h (omega arith),
        c.parity-2.ensures ∙ right 91 tt ((a.u % 2 * 64) % 256 + a.state) (a.u % 2) a.state w h (omega arith),
      );
    }

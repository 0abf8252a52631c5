-- `word_bit` meets its contract.
use mathlib.Core.Path.{◌≡◌, sym, ap}
use Prim.Native.Nat.{ℕ, ◌-◌, ◌/◌, ◌%◌}
use native.Mathlib.Omega.{arith}
use Rattle.isdbs_points.proofs.word_bit.Goals as goal

pub returns-else-i-lt16 : goal.returns-else-i-lt16
returns-else-i-lt16 c =
    let e : 15 - c.args.i ≡ 0 = omega arith in
    let d : c.args.word / 1 ≡ c.args.word = omega arith in
    rw e (ap (λ (z : ℕ). z % 2) (sym d))

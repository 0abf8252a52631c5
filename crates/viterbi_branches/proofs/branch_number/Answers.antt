-- `viterbi_branches::branch_number` meets its contract: each of the 128 entries of the constant is the number of its branch.
use mathlib.Core.Path.{◌≡◌}
use Prim.Native.Nat.{◌+◌, ◌*◌, ◌/◌, ◌%◌}
use native.Mathlib.Omega.{arith}
use Rattle.trellis.specs.Code.{label, output, tapped}
use Rattle.viterbi_branches.specs.BranchLaws.{branch_numbers}
use Rattle.viterbi_branches.proofs.branch_number.Goals as goal

pub number-requires : goal.number-requires
unfolding label output tapped
number-requires c = (omega arith, omega arith, omega arith, branch_numbers _ tt)

pub returns : goal.returns
returns c =
    let s = c.args.s in
    let e : 2 * (s % 64 / 2) + s % 2 ≡ s % 64 = omega arith in
    rw e at c.number.ensures

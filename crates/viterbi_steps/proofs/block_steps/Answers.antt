-- `viterbi_steps::block_steps` meets its contract.
use Prim.Native.Nat.{◌<◌}
use native.Mathlib.Omega.{arith}
use Rattle.viterbi_steps.proofs.block_steps.Goals as goal

pub returns : goal.returns
returns c =
    let first = c.least.ensures in
    let both = c.least-2.ensures in
    let some : 0 < c.least.result = first.2 (omega arith) (omega arith) in
    let any : 0 < c.least-2.result = both.2 some (omega arith) in
    (any, omega arith, omega arith, omega arith)

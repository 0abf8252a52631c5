-- `viterbi_branches::metric` meets its contract, in each arm.
use mathlib.Core.Path.{◌≡◌, refl}
use native.Mathlib.Omega.{arith}
use Rattle.viterbi_branches.proofs.metric.Goals as goal

pub returns-in-0 : goal.returns-in-0
returns-in-0 c = let e : c.args.n ≡ 0 = omega arith in rw e refl

pub returns-in-1 : goal.returns-in-1
returns-in-1 c = let e : c.args.n ≡ 1 = omega arith in rw e refl

pub returns-in-2 : goal.returns-in-2
returns-in-2 c = let e : c.args.n ≡ 2 = omega arith in rw e refl

pub returns-in_default : goal.returns-in_default
returns-in_default c = let e : c.args.n ≡ 3 = omega arith in rw e refl

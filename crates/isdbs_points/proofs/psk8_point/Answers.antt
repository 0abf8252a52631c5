-- `psk8_point` meets its contract: case by case.
use native.Mathlib.Omega.{arith}
use Prim.Native.Nat.{ℕ, ◌+◌, ◌%◌, ◌<◌, ◌≤◌, zero-le}
use native.Mathlib.Nat.{mod-lt}
use lib.Dec.{lit<}
use mathlib.Core.Path.{◌≡◌}
use Rattle.isdbs_points.proofs.psk8_point.Goals as goal

pub returns-in-0 : goal.returns-in-0
returns-in-0 c = let e : c.args.label % 8 ≡ 0 = omega arith in rw e

pub returns-in-1 : goal.returns-in-1
returns-in-1 c = let e : c.args.label % 8 ≡ 1 = omega arith in rw e

pub returns-in-2 : goal.returns-in-2
returns-in-2 c = let e : c.args.label % 8 ≡ 2 = omega arith in rw e

pub returns-in-3 : goal.returns-in-3
returns-in-3 c = let e : c.args.label % 8 ≡ 3 = omega arith in rw e

pub returns-in-4 : goal.returns-in-4
returns-in-4 c = let e : c.args.label % 8 ≡ 4 = omega arith in rw e

pub returns-in-5 : goal.returns-in-5
returns-in-5 c = let e : c.args.label % 8 ≡ 5 = omega arith in rw e

pub returns-in-6 : goal.returns-in-6
returns-in-6 c = let e : c.args.label % 8 ≡ 6 = omega arith in rw e

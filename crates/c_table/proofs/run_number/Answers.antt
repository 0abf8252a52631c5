-- `run_number` meets its contract.
use mathlib.Core.Path.{◌≡◌}
use native.Mathlib.Omega.{arith}
use Rattle.c_table.proofs.run_number.Goals as goal

pub returns : goal.returns
returns c = let e : c.args.i ≡ 5 = omega arith in rw e

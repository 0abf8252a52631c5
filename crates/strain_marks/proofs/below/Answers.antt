-- `below` meets its contract.
use mathlib.Core.Path.{◌≡◌, refl}
use mathlib.Core.Bool.{Bool, true, false}
use Prim.Native.Nat.{◌<◌}
use native.Mathlib.Omega.{arith}
use lib.Ieee.{lt}
use mir.Val.{bool_byte}
use Rattle.trellis.specs.Lists.{bit}
use Rattle.strain_marks.proofs.below.Goals as goal

as_bit : (b : Bool) → (bool_byte b ≡ bit b) × (bool_byte b < 2)
as_bit true = (refl, omega arith)
as_bit false = (refl, omega arith)

pub returns : goal.returns
returns c = as_bit (lt c.args.x c.args.top)

-- `put_byte` meets its contract.
use Prim.Native.Nat.{◌-◌, ◌≤◌}
use lib.Ieee.{nan}
use lib.ListN.{get_or}
use Rattle.encode_bits.specs.Windows.{backward}
use Rattle.encode_run.specs.Encoded.{byte_register}
use Rattle.encode_run.specs.PieceLaws.{Put}
use Rattle.encode_run.proofs.put_byte.Given as goal

abbrev pub invariant-loop-i : goal.invariant-loop-i
invariant-loop-i l =
    (l.i ≤ 4) × Put (λ j. get_or l.xs (byte_register l.byte (backward l.start) j) nan) (λ j. get_or l.ys (byte_register l.byte (backward l.start) j) nan) l.initial.re l.initial.im l.re l.im l.i

abbrev pub decreases-loop-i : goal.decreases-loop-i
decreases-loop-i l = 4 - l.i

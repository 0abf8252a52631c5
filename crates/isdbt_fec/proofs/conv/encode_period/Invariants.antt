-- `conv::encode_period` meets its contract.
use mathlib.Core.Path.{◌≡◌}
use Prim.Native.Nat.{ℕ, ◌-◌, ◌*◌, ◌<◌, ◌≤◌}
use lib.ListN.{length, get_or}
use Rattle.trellis.specs.Code.{state_at}
use Rattle.isdbt_table.specs.Puncture.{mother}
use Rattle.trellis.specs.Encoded.{low_bits}
use Rattle.isdbt_fec.proofs.conv.encode_period.Given as goal

abbrev pub invariant-loop-i : goal.invariant-loop-i
invariant-loop-i l = (l.i ≤ l.i-end) × (l.s ≡ state_at 32 l.state (low_bits l.bits) l.i) × (length l.m ≡ 14) × ((k : ℕ) → k < 2 * l.i → get_or l.m k 0 ≡ mother l.state (low_bits l.bits) k)

abbrev pub decreases-loop-i : goal.decreases-loop-i
decreases-loop-i l = l.i-end - l.i

-- `put_pairs` meets its contract.
use Prim.Native.Nat.{◌-◌, ◌≤◌}
use lib.Ieee.{nan}
use lib.ListN.{get_or}
use Rattle.encode_run.specs.Encoded.{pair_label}
use Rattle.encode_run.specs.PieceLaws.{Put}
use Rattle.encode_run.proofs.put_pairs.Given as goal

abbrev pub invariant-loop-i : goal.invariant-loop-i
invariant-loop-i l =
    (l.i ≤ l.count) × Put (λ k. get_or l.xs (pair_label l.word l.s1 l.s0 k) nan) (λ k. get_or l.ys (pair_label l.word l.s1 l.s0 k) nan) l.initial.re l.initial.im l.re l.im l.i

abbrev pub decreases-loop-i : goal.decreases-loop-i
decreases-loop-i l = l.count - l.i

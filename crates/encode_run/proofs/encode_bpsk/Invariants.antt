-- `encode_bpsk` meets its contract.
use Prim.Native.Nat.{◌*◌, ◌-◌, ◌≤◌}
use Rattle.isdbs_combination.specs.declared.Combination.TheVariants.{Bpsk1_2}
use Rattle.isdbs_points.specs.Pieces.{piece_inputs}
use Rattle.encode_run.specs.Encoded.{piece_point}
use Rattle.encode_run.specs.PieceLaws.{Going}
use Rattle.encode_run.proofs.encode_bpsk.Given as goal

abbrev pub invariant-loop-k : goal.invariant-loop-k
invariant-loop-k l =
    (l.k ≤ l.n)
    × Going (piece_inputs Bpsk1_2 l.bytes l.bit l.n) l.start (λ j. (piece_point Bpsk1_2 l.m l.bytes l.bit l.n l.start j).re) (λ j. (piece_point Bpsk1_2 l.m l.bytes l.bit l.n l.start j).im) l.initial.re l.initial.im l.re l.im l.state l.k (2 * l.k)

abbrev pub decreases-loop-k : goal.decreases-loop-k
decreases-loop-k l = l.n - l.k

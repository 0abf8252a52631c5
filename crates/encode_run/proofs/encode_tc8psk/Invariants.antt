-- `encode_tc8psk` meets its contract.
use Prim.Native.Nat.{◌*◌, ◌/◌, ◌<◌, ◌≤◌}
use lib.Ieee.{nan}
use lib.ListN.{get_or}
use Rattle.encode_bits.specs.Windows.{backward}
use Rattle.isdbs_combination.specs.declared.Combination.TheVariants.{Tc8psk2_3}
use Rattle.isdbs_points.specs.Pieces.{piece_inputs}
use Rattle.encode_run.specs.PieceLaws.{Going}
use Rattle.encode_run.proofs.EncodeTc8psk.{tc8psk_register}
use Rattle.encode_run.proofs.encode_tc8psk.Given as goal

abbrev pub invariant-loop-j : goal.invariant-loop-j
invariant-loop-j l =
    (l.j ≤ l.fn.n / 4)
    × Going (piece_inputs Tc8psk2_3 l.bytes l.bit l.fn.n) l.start (λ j. get_or l.xs (tc8psk_register l.bytes l.bit l.fn.n l.start j) nan) (λ j. get_or l.ys (tc8psk_register l.bytes l.bit l.fn.n l.start j) nan) l.initial.re l.initial.im l.re l.im (backward l.state) (4 * l.j) (4 * l.j)
    × (l.state < 64)

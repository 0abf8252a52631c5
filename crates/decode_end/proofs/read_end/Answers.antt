-- `read_end` meets its contract.
use mathlib.Core.Path.{◌≡◌, ◌∙◌, ap}
use Prim.Native.Nat.{◌≤◌}
use native.Mathlib.Omega.{arith}
use borrow.Author.Rules.{rules}
use lib.Dec.{lit≤}
use lib.ListN.{length}
use Rattle.trellis.specs.ListLaws.{length_upto}
use Rattle.isdbs_frame.specs.Frame.{w1}
use Rattle.isdbs_points.specs.Layout.{word_bit}
use Rattle.viterbi_core.specs.CountLaws.{releases_le}
use Rattle.decode_end.proofs.Ending.{ended}
use Rattle.decode_end.proofs.read_end.Goals as goal

pub run_steps-now_at-requires : goal.run_steps-now_at-requires
run_steps-now_at-requires c =
    let made = c in
    let start = made in
    let a = start.args in
    let most = releases_le 128 a.at.held 16 (lit≤ tt) in
    let room = start.requires.2 in
    let long : length made.known_bits-known.result ≡ 16 = ap length made.known_bits-known.ensures ∙ length_upto (word_bit w1) 16 in
    (lit≤ tt, lit≤ tt, start.requires.0, start.requires.1, omega arith, lit≤ tt, omega arith)

pub finish-requires : goal.finish-requires
finish-requires c =
    let ran = c in
    let start = ran in
    let fits = start.requires.1 in
    let room = start.requires.2 in
    let few = ran.run_steps-now_at.ensures.few in
    let left = ran.run_steps-now_at.ensures.left in
    let gone = ran.run_steps-now_at.ensures.gone in
    (omega arith, omega arith)

pub returns : goal.returns
returns c =
    let clearing = c in
    let done = clearing in
    let ran = done in
    let made = ran in
    ended _ _ _ _ _ _ _ _ _ _ _ _ _ made.renormalise.ensures made.known_bits-known.ensures ran.run_steps-now_at.ensures done.finish.ensures.1 done.finish.ensures.2 clearing.clear.ensures

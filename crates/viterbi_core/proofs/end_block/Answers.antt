-- `viterbi_core::end_block` meets its contract.
use mathlib.Core.Path.{◌≡◌}
use Prim.Native.Nat.{◌+◌, ◌-◌}
use native.Mathlib.Omega.{arith}
use lib.ListN.{take, length-drop}
use Rattle.viterbi_core.specs.Calls.{traced, best_state}
use Rattle.viterbi_core.specs.PartLaws.{tail_whole, written_tail}
use Rattle.viterbi_core.proofs.Ends.{kept_end, let_go_end}
use Rattle.viterbi_core.proofs.end_block.Goals as goal

pub returns-then-held-traceback : goal.returns-then-held-traceback
returns-then-held-traceback c =
    let a = c.args in
    kept_end a.traceback a.kind a.i a.pm.now a.at a.decisions.now a.out.now c.settle_block.new.pm c.settle_block.ensures c.if-held-traceback.true

pub release-requires : goal.release-requires
release-requires c =
    let start = c in
    let a = start.args in
    let out = a.out.now in
    let full : a.at.held ≡ 4096 + a.traceback = omega arith in
    let room = start.requires.5 full in
    (start.requires.1, start.requires.3, rw (tail_whole a.at.count out out out start.requires.4, length-drop a.at.count out) (omega arith))

pub returns : goal.returns
returns c =
    let freed = c in
    let settle-block = freed in
    let start = settle-block in
    let settled = settle-block.settle_block in
    let a = start.args in
    let out = a.out.now in
    let_go_end a.traceback a.kind a.i a.pm.now a.at a.decisions.now out settled.new.pm settled.ensures freed.release.new.decisions _ (omega arith) freed.release.ensures.1
    (written_tail a.at.count out freed.release.new.out (take 4096 (traced (take (4096 + a.traceback) a.decisions.now) (best_state settled.new.pm))) start.requires.4 freed.release.ensures.0)

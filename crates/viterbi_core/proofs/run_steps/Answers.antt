use mathlib.Core.Path.{◌≡◌, refl}
use Prim.Native.Nat.{◌+◌, ◌-◌, ◌≤◌}
use native.Mathlib.Omega.{arith}
use borrow.Author.Rules.{rules}
use lib.ListN.{length, length-drop}
use Rattle.viterbi_steps.specs.Runs.{run_words}
use Rattle.viterbi_core.specs.Calls.{steps_of, lent_steps}
use Rattle.viterbi_core.specs.PartLaws.{tail_whole, written_tail}
use Rattle.viterbi_core.specs.BlockLaws.{settles}
use Rattle.viterbi_core.proofs.Turn.{length_put, carried_none, carried_more, block_count, block_room}
use Rattle.viterbi_core.proofs.run_steps.Goals as goal

pub loop-k-init : goal.loop-k-init
loop-k-init c =
    let start = c in
    let a = start.args in
    (search rules, refl, refl, carried_none a.traceback start.requires.1 (steps_of a.kind a.values.now a.known.now) a.i a.pm.now a.at a.decisions.now a.out.now start.requires.2)

pub run-requires : goal.run-requires
run-requires c =
    let block = c in
    let at = block in
    let start = at in
    let a = start.args in
    let len = block.block_steps-len.ensures in
    let held = at.loop-k.now_at.held in
    let dec = at.loop-k.decisions in
    let e = at.loop-k.invariant.1 in
    let few = at.loop-k.invariant.3.few in
    let lent : a.n ≤ lent_steps a.kind a.values.now a.known.now = start.requires.6 in
    (omega arith, omega arith, rw (tail_whole held dec dec dec (omega arith), length-drop held dec) (omega arith))

pub end_block-now_at-requires : goal.end_block-now_at-requires
end_block-now_at-requires c =
    let here = c in
    let ran = here.run in
    let block = here.block_steps-len in
    let at = here in
    let start = at in
    let a = start.args in
    let len = block.ensures in
    let k = at.loop-k.k in
    let ys = steps_of a.kind a.values.now a.known.now in
    let of = settles a.kind a.values.now a.known.now in
    let held = at.loop-k.now_at.held in
    let dec = at.loop-k.decisions in
    let z = at.loop-k.invariant.3 in
    let few = z.few in
    let ld = at.loop-k.invariant.1 in
    let lo = at.loop-k.invariant.2 in
    let long = length_put held block.result (λ j. ys (k + j)) at.loop-k.pm dec ran.new.words (omega arith) ran.ensures.1 in
    let count = block_count a.traceback start.requires.1 ys a.i a.pm.now a.at a.decisions.now a.out.now a.kind of k block.result at.loop-k.now_at at.loop-k.pm dec at.loop-k.out z len.0 len.3 (omega arith) a.n (length a.out.now) at.loop-k.invariant.0 start.requires.4 in (
      start.requires.0,
      start.requires.1,
      omega arith,
      omega arith,
      omega arith,
      λ full.
          let room = block_room a.traceback start.requires.1 ys a.i a.pm.now a.at a.decisions.now a.out.now a.kind of k block.result at.loop-k.now_at at.loop-k.pm dec at.loop-k.out z len.0 len.3 (omega arith) a.n (length a.out.now) (omega arith) start.requires.4 full in
          omega arith,
    )

pub loop-k-preserved : goal.loop-k-preserved
loop-k-preserved c =
    let same_out = c.out-1.given in
    let same-dec = c.decisions-in-loop-k-1.given in
    let ended = c in
    let end = ended.end_block-now_at in
    let here = ended in
    let ran = here.run in
    let block = here.block_steps-len in
    let at = here in
    let start = at in
    let a = start.args in
    let len = block.ensures in
    let k = at.loop-k.k in
    let ys = steps_of a.kind a.values.now a.known.now in
    let of = settles a.kind a.values.now a.known.now in
    let held = at.loop-k.now_at.held in
    let dec = at.loop-k.decisions in
    let few = at.loop-k.invariant.3.few in
    let ld = at.loop-k.invariant.1 in
    let long = length_put held block.result (λ j. ys (k + j)) at.loop-k.pm dec ran.new.words (omega arith) ran.ensures.1 in (
      omega arith,
      omega arith,
      omega arith,
      carried_more a.traceback start.requires.1 ys a.i a.pm.now a.at a.decisions.now a.out.now a.kind of k block.result at.loop-k.now_at at.loop-k.pm dec at.loop-k.out at.loop-k.invariant.3 len.0 len.3 (omega arith)
          ran.new.pm end.new.pm _ _ _ end.result ran.ensures.0
          (written_tail held dec ran.new.words (run_words (λ j. ys (k + j)) at.loop-k.pm block.result) (omega arith) ran.ensures.1) end.ensures,
    )

pub returns : goal.returns
returns c =
    let e : c.loop-k.k ≡ c.args.n = omega arith in
    rw e at c.loop-k.invariant.3

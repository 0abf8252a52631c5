use mathlib.Core.Path.{◌≡◌}
use Prim.Native.Nat.{◌+◌, ◌-◌, ◌*◌, ◌/◌, ◌%◌, ◌<◌}
use native.Mathlib.Omega.{arith}
use borrow.Author.Rules.{rules}
use lib.ListN.{length}
use Rattle.trellis.proofs.DistanceLaws.{bits_at}
use Rattle.mend_distance.specs.Distances.{pair_at, word_at}
use Rattle.mend_distance.proofs.Passes.{table_none, table_more, table_capped, words_none, words_more, words_long, word_is}
use Rattle.mend_distance.proofs.keep_words.Goals as goal

pub loop-t-init : goal.loop-t-init
loop-t-init c =
    let a = c.args in (
      search rules,
      table_none (a.start % 64) (pair_at a.bits.now) c.start_table-d.result c.start_table-d.ensures,
      words_none (word_at (a.start % 64) a.bits.now) a.decisions.now,
    )

pub distance_step-w-requires : goal.distance_step-w-requires
distance_step-w-requires c =
    let at = c in
    let start = at in
    let a = start.args in
    let bits = a.bits.now in
    let t = at.loop-t.t in
    (bits_at bits start.requires.0 (2 * t), bits_at bits start.requires.0 (2 * t + 1), table_capped (a.start % 64) (pair_at bits) t at.loop-t.d at.loop-t.invariant.1)

pub bounds-decisions-t : goal.bounds-decisions-t
bounds-decisions-t c =
    let at = c in
    let a = at.args in
    let l = words_long (word_at (a.start % 64) a.bits.now) a.decisions.now at.loop-t.t at.loop-t.decisions (search rules) at.loop-t.invariant.2 in
    omega arith

pub loop-t-preserved : goal.loop-t-preserved
loop-t-preserved c =
    let at = c in
    let start = at in
    let a = start.args in
    let s = a.start % 64 in
    let bits = a.bits.now in
    let t = at.loop-t.t in
    let inv = at.loop-t.invariant in
    let step = c.distance_step-w.ensures in
    let h : t < length a.decisions.now = search rules in (
      search rules,
      table_more s (pair_at bits) t at.loop-t.d _ inv.1 step.0,
      words_more (word_at s bits) a.decisions.now t _ at.loop-t.decisions h inv.2 (word_is s bits t at.loop-t.d _ inv.1 step.1),
    )

pub shape_of-decisions : goal.shape_of-decisions
shape_of-decisions c =
    let at = c in
    let a = at.args in
    words_long (word_at (a.start % 64) a.bits.now) a.decisions.now at.loop-t.t at.loop-t.decisions (search rules) at.loop-t.invariant.2

pub returns : goal.returns
returns c =
    let at = c in
    let n = length at.args.bits.now / 2 in
    let e : at.loop-t.t ≡ n = omega arith in
    rw e at at.loop-t.invariant.2

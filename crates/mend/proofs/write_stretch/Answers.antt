use mathlib.Core.Path.{◌≡◌, refl}
use Prim.Native.Nat.{suc, ◌+◌, ◌-◌, ◌*◌, ◌/◌, ◌%◌}
use native.Mathlib.Omega.{arith}
use borrow.Author.Rules.{rules}
use lib.ListN.{length, length-set}
use Rattle.mend_distance.specs.Distances.{word_at}
use Rattle.mend.specs.Tail.{kept_long, kept_at, tail_none, tail_more, tail_whole}
use Rattle.mend.proofs.write_stretch.Goals as goal

pub loop-t-init : goal.loop-t-init
loop-t-init c =
    let start = c in
    let a = start.args in
    let bits = a.bits.now in
    let e : length bits ≡ 2 * (length bits / 2) = search rules in
    (search rules, refl, search rules, tail_none (a.start % 64) (a.end % 64) bits a.out.now start.requires.0 start.requires.3 (length bits / 2) e start.requires.4)

pub bounds-decisions-t : goal.bounds-decisions-t
bounds-decisions-t c =
    let keep-words = c in
    let start = keep-words in
    let a = start.args in
    let l = kept_long (word_at (a.start % 64) a.bits.now) (length a.bits.now / 2) a.decisions.now _ start.requires.2 keep-words.keep_words.ensures in
    omega arith

pub bounds-out-t-in-loop-t : goal.bounds-out-t-in-loop-t
bounds-out-t-in-loop-t c = let at = c in let l = length-set at.loop-t.out (2 * (at.loop-t.t - 1) + 1) c.encode_bit-sent.result.y in omega arith

pub loop-t-preserved : goal.loop-t-preserved
loop-t-preserved c =
    let at = c in
    let keep-words = at in
    let start = keep-words in
    let a = start.args in
    let bits = a.bits.now in
    let s = a.start % 64 in
    let inv = at.loop-t.invariant in
    let t = at.loop-t.t - 1 in
    let pos : suc t ≡ at.loop-t.t = omega arith in
    let pred = c.kept_predecessor-from.ensures in
    let sent = c.encode_bit-sent.ensures in
    let w = kept_at (word_at s bits) (length bits / 2) a.decisions.now _ keep-words.keep_words.ensures t (omega arith) in
    let out' = at.loop-t.out in (
      pred.0,
      simp length-set inv.1,
      omega arith,
      tail_more s (a.end % 64) bits a.out.now start.requires.0 start.requires.3 t at.loop-t.s _ _ _ out' inv.0 (rw w at pred.1) sent.0 sent.1 (rw pos inv.3),
    )

pub shape_of-decisions : goal.shape_of-decisions
shape_of-decisions c =
    let keep-words = c in
    let start = keep-words in
    let a = start.args in
    kept_long (word_at (a.start % 64) a.bits.now) (length a.bits.now / 2) a.decisions.now _ start.requires.2 keep-words.keep_words.ensures

pub shape_of-out : goal.shape_of-out
shape_of-out c = c.loop-t.invariant.1

pub returns : goal.returns
returns c =
    let at = c in
    let keep-words = at in
    let start = keep-words in
    let a = start.args in
    let e : at.loop-t.t ≡ 0 = omega arith in
    let inv = rw e at at.loop-t.invariant in
    record {
      words = keep-words.keep_words.ensures;
      writes = tail_whole (a.start % 64) (a.end % 64) a.bits.now a.out.now start.requires.0 start.requires.3 at.loop-t.s at.loop-t.out inv.0 inv.3;
    }

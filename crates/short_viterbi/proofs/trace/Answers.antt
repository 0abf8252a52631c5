use Rattle.short_code.specs.RegisterLaws.{two_halves}
use mathlib.Core.Path.{◌≡◌, refl}
use mathlib.Core.Logic.{⊎_elim}
use Prim.Native.Nat.{◌+◌, ◌-◌, ◌/◌, ◌≤◌, ◌<◌}
use native.Mathlib.Omega.{arith}
use native.Mathlib.Nat.{sub_self}
use lib.ListN.{length, take, length-set}
use lib.Seq.{length-take-le}
use borrow.Author.Rules.{rules}
use Rattle.trellis.specs.Step as trellis
use Rattle.trellis.specs.Step.{back, input}
use Rattle.trellis.specs.WrittenLaws.{between_more, kept_set, laid_whole}
use Rattle.trellis.proofs.RunLaws.{back_more, input_read}
use Rattle.short_viterbi.proofs.trace.Goals as goal
use Rattle.short_viterbi.proofs.trace.Goals.{then-t-count, else-t-count}

pub loop-t-init : goal.loop-t-init
unfolding back
loop-t-init c =
    let n = c.args.n in
    (omega arith, refl, search rules, rw (sub_self n), λ i a b. absurd (omega arith), λ i h. refl)

pub overflow_cast-out : goal.overflow_cast-out
overflow_cast-out c =
    let at = c in
    let t = two_halves at.args.h at.loop-t.s at.requires.0 at.loop-t.invariant.2 in
    omega arith

pub overflow_mul-s : goal.overflow_mul-s
overflow_mul-s c =
    let at = c in
    let t = two_halves at.args.h at.loop-t.s at.requires.0 at.loop-t.invariant.2 in
    omega arith

pub overflow_add-s : goal.overflow_add-s
overflow_add-s c =
    let at = c in
    let t = two_halves at.args.h at.loop-t.s at.requires.0 at.loop-t.invariant.2 in
    omega arith

pub loop-t-preserved : goal.loop-t-preserved
unfolding trellis.kept
loop-t-preserved c =
    let at = c in
    let d = at.args.decisions.now in
    let n = at.args.n in
    let state = at.args.state in
    let count = at.args.count in
    let out₀ = at.args.out.now in
    let h = at.args.h in
    let f = input h (take n d) n state in
    let t = at.loop-t.t in
    let s = at.loop-t.s in
    let out = at.loop-t.out in
    let inv = at.loop-t.invariant in
    let pos : 0 < t = omega arith in
    let halves = two_halves h s at.requires.0 inv.2 in
    let older = back_more h d n state t s pos inv.0 inv.3 in
    let j : t ≡ t - 1 + 1 = omega arith in
    elim c.if-t-count.branch [
      | then-t-count w ↦
          let i : t - 1 < length out = omega arith in
          rw w.out-is (
            omega arith,
            simp length-set inv.1,
            omega arith,
            older,
            between_more 0 f (t - 1) count out (s / h) i (rw j at inv.4) (input_read h (take n d) n state t s pos inv.3),
            kept_set 0 out₀ count (t - 1) out (s / h) w.if-t-count.true inv.5,
          )
      | else-t-count w ↦ rw w.out-is (omega arith, inv.1, omega arith, older, λ i a b. absurd (omega arith), inv.5)
    ]

pub returns : goal.returns
unfolding trellis.traced
returns c =
    let at = c in
    let inv = at.loop-t.invariant in
    let d = at.args.decisions.now in
    let n = at.args.n in
    let hn : n ≤ length d = search rules in
    rw (length-take-le n d hn)
    (laid_whole 0 (input at.args.h (take n d) n at.args.state) n at.args.count at.args.out.now at.loop-t.out (search rules) (search rules) inv.1
    (λ i h. inv.4 i (omega arith) h) inv.5)

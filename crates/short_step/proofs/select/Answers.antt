use mathlib.Core.Path.{◌≡◌, refl}
use mathlib.Core.Bool.{cond}
use mathlib.Core.List.{List}
use Prim.Native.Nat.{ℕ, ◌-◌, ◌*◌, ◌<◌}
use native.Mathlib.Omega.{arith}
use lib.ListN.{length, length-set}
use lib.Ieee.{Float, nan}
use Rattle.trellis.specs.Lists.{bit, packed}
use Rattle.trellis.specs.Step.{Step, takes, cand, wins, next, word}
use Rattle.trellis.specs.Isdb.{rule}
use Rattle.viterbi_choice.specs.PackedLaws.{packed_more}
use Rattle.viterbi_core.specs.Calls.{step_of}
use Rattle.short_code.specs.Codes.{labels}
use Rattle.trellis.specs.WrittenLaws.{written_none, written_more}
use Rattle.short_step.proofs.select.Goals as goal

-- a turn, by the even and the odd path into its state
module _ (h : ℕ) (l : ℕ → ℕ → ℕ) (pm : List Float) (x : Step) (k : ℕ) (e o : Float) (is-e : e ≡ cand h l pm x k 0) (is-o : o ≡ cand h l pm x k 1) where
  larger_next : (v : Float) → v ≡ cond (takes rule e o) o e → v ≡ next h l rule pm x k
  unfolding next wins
  larger_next v is-v = rw (is-v, is-e, is-o)

  beats_wins : (b : ℕ) → b ≡ bit (takes rule e o) → b ≡ bit (wins h l rule pm x k)
  unfolding wins
  beats_wins b is_b = rw (is_b, is-e, is-o)

pub loop-k-init : goal.loop-k-init
unfolding packed
loop-k-init c =
    let a = c.args in
    (refl, omega arith, c.states-all.ensures.1, written_none nan (next a.h (labels a.code) rule a.pm.now (step_of a.x)) a.new.now, refl)

pub loop-k-preserved : goal.loop-k-preserved
loop-k-preserved c =
    let turn = c in
    let at = turn in
    let a = at.args in
    let k = at.loop-k.k in
    let inv = at.loop-k.invariant in
    let l = labels a.code in
    let x = step_of a.x in
    let inside : k < length at.loop-k.new = omega arith in
    let even = c.path-even.ensures in
    let odd = c.path-odd.ensures in (
      inv.0,
      omega arith,
      simp length-set inv.2,
      written_more nan (next a.h l rule a.pm.now x) k at.loop-k.new _ inside inv.3 (larger_next a.h l a.pm.now x k _ _ even odd _ c.larger.ensures),
      packed_more (wins a.h l rule a.pm.now x) k 64 at.loop-k.w _ (omega arith) inv.4 (beats_wins a.h l a.pm.now x k _ _ even odd _ c.beats.ensures),
    )

pub returns : goal.returns
unfolding word
returns c =
    let at = c in
    let e : at.loop-k.k ≡ 2 * at.args.h = omega arith in
    let inv = rw e at at.loop-k.invariant in
    (inv.3, inv.4)

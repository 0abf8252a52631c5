use mathlib.Core.Path.{◌≡◌, refl}
use Prim.Native.Nat.{◌+◌, ◌-◌, ◌*◌, ◌<◌}
use native.Mathlib.Omega.{arith}
use lib.Ieee.{neg, of_bits}
use Rattle.viterbi_peak.proofs.Peaks.{chain_none, chain_more, chains_top}
use Rattle.viterbi_peak.proofs.greatest_of_four.Goals as goal

pub loop-s-init : goal.loop-s-init
unfolding of_bits neg
loop-s-init c =
    let pm = c.args.pm.now in
    let all = c.type_inv.pm in
    (omega arith, chain_none pm all 0, chain_none pm all 1, chain_none pm all 2, chain_none pm all 3)

pub loop-s-preserved : goal.loop-s-preserved
loop-s-preserved c =
    let third = c in
    let second = third in
    let first = second in
    let at = first in
    let known = at in
    let pm = known.args.pm.now in
    let all = known.type_inv.pm in
    let s = at.loop-s.s in
    let inv = at.loop-s.invariant in
    let h : s < 16 = omega arith in (
      omega arith,
      chain_more pm all 0 s (4 * s) at.loop-s.a _ h (omega arith) (omega arith) first.greater-a.ensures inv.1,
      chain_more pm all 1 s (4 * s + 1) at.loop-s.b _ h (omega arith) refl second.greater-b.ensures inv.2,
      chain_more pm all 2 s (4 * s + 2) at.loop-s.c _ h (omega arith) refl third.greater-c.ensures inv.3,
      chain_more pm all 3 s (4 * s + 3) at.loop-s.d _ h (omega arith) refl c.greater-d.ensures inv.4,
    )

pub returns : goal.returns
returns c =
    let upper = c in
    let lower = upper in
    let at = lower in
    let known = at in
    let e : at.loop-s.s ≡ 16 = omega arith in
    let inv = rw e at at.loop-s.invariant in
    chains_top known.args.pm.now known.type_inv.pm _ _ _ _ _ _ _ inv.1 inv.2 inv.3 inv.4 lower.greater.ensures upper.greater-2.ensures c.greater-3.ensures

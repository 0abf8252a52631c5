use mathlib.Core.Path.{◌≡◌, refl, ◌∙◌}
use mathlib.Core.List.{List}
use Prim.Native.Nat.{ℕ, ◌-◌, ◌/◌, ◌%◌, ◌<◌}
use native.Mathlib.Omega.{arith}
use lib.ListN.{length, get_or, length-set}
use lib.Ieee.{Float, nan, binary32, neg, of_bits}
use borrow.Author.Tests.{eq-eqb, ne_eqb}
use Rattle.trellis.specs.Step.{ruled}
use Rattle.trellis.specs.WrittenLaws.{written_none, written_more, written_skip, kept_more, kept_skip, written_whole}
use Rattle.viterbi_peak.proofs.rule_out.Invariants.{ruled_at}
use Rattle.viterbi_peak.proofs.rule_out.Goals as goal
use Rattle.viterbi_peak.proofs.rule_out.Goals.{then-s-kept, else-s-kept}

out : (b : ℕ) (pm : List Float) (k : ℕ) → (k / 32 ≡ b % 2 → ⊥) → of_bits binary32 0xce6e_6b28 ≡ ruled_at b pm k
out b pm k h = rw (ne_eqb (k / 32) (b % 2) h)

stays : (b : ℕ) (pm : List Float) (k : ℕ) → k / 32 ≡ b % 2 → get_or pm k nan ≡ ruled_at b pm k
stays b pm k h = rw (eq-eqb (k / 32) (b % 2) h)

pub loop-s-init : goal.loop-s-init
loop-s-init c =
    let start = c in
    let pm = start.args.pm.now in
    (omega arith, refl, c.states-n.ensures.1, written_none nan (ruled_at start.args.b pm) pm, λ i h. refl)

pub loop-s-preserved : goal.loop-s-preserved
unfolding of_bits neg
loop-s-preserved c =
    let at = c in
    let start = at in
    let pm₀ = start.args.pm.now in
    let pm = at.loop-s.pm in
    let b = start.args.b in
    let f = ruled_at b pm₀ in
    let s = at.loop-s.s in
    let inv = at.loop-s.invariant in
    let h : s < length pm = omega arith in
    elim c.if-s-kept.branch [
      | then-s-kept w ↦ rw w.pm-is (omega arith, refl, simp length-set inv.2, written_more nan f s pm _ h inv.3 (out b pm₀ s w.if-s-kept.true), kept_more nan pm₀ s pm _ inv.4)
      | else-s-kept w ↦ rw w.pm-is (omega arith, refl, inv.2, written_skip nan f s pm inv.3 (inv.4 s (omega arith) ∙ stays b pm₀ s w.if-s-kept.false), kept_skip nan pm₀ s pm inv.4)
    ]

pub returns : goal.returns
unfolding ruled
returns c =
    let at = c in
    let start = at in
    let inv = at.loop-s.invariant in
    let e : at.loop-s.s ≡ 64 = omega arith in
    written_whole nan (ruled_at start.args.b start.args.pm.now) 64 at.loop-s.pm inv.2 (rw e at inv).3

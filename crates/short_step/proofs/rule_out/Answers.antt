use mathlib.Core.Path.{◌≡◌, refl, ◌∙◌}
use mathlib.Core.Logic.{⊎_elim}
use mathlib.Core.List.{List}
use Prim.Native.Nat.{ℕ, ◌-◌, ◌*◌, ◌/◌, ◌%◌, ◌<◌}
use native.Mathlib.Omega.{arith}
use lib.ListN.{length, get_or, length-set}
use lib.Ieee.{Float, nan, binary32, neg, of_bits}
use borrow.Author.Tests.{eq-eqb, ne_eqb}
use Rattle.trellis.specs.Step.{ruled}
use Rattle.trellis.specs.WrittenLaws.{written_none, written_more, kept_more, written_whole}
use Rattle.short_step.proofs.rule_out.Invariants.{ruled_at}
use Rattle.short_step.proofs.rule_out.Goals as goal
use Rattle.short_step.proofs.rule_out.Goals.{then-s-h, else-s-h}

out : (h b : ℕ) (pm : List Float) (k : ℕ) → (k / h ≡ b % 2 → ⊥) → of_bits binary32 0xce6e_6b28 ≡ ruled_at h b pm k
out h b pm k n = rw (ne_eqb (k / h) (b % 2) n)

stays : (h b : ℕ) (pm : List Float) (k : ℕ) → k / h ≡ b % 2 → get_or pm k nan ≡ ruled_at h b pm k
stays h b pm k e = rw (eq-eqb (k / h) (b % 2) e)

pub loop-s-init : goal.loop-s-init
loop-s-init c =
    let start = c in
    let pm = start.args.pm.now in
    (omega arith, refl, refl, written_none nan (ruled_at start.args.h start.args.b pm) pm, λ i h. refl)

pub loop-s-preserved : goal.loop-s-preserved
unfolding of_bits neg
loop-s-preserved c =
    let at = c in
    let start = at in
    let pm₀ = start.args.pm.now in
    let pm = at.loop-s.pm in
    let h = start.args.h in
    let b = start.args.b in
    let f = ruled_at h b pm₀ in
    let s = at.loop-s.s in
    let inv = at.loop-s.invariant in
    let i : s < length pm = omega arith in
    elim c.if-s-h.branch [
      | then-s-h w ↦ rw w.pm-is (omega arith, inv.1, simp length-set inv.2, written_more nan f s pm _ i inv.3 (out h b pm₀ s (rw inv.1 at w.if-s-h.true)), kept_more nan pm₀ s pm _ inv.4)
      | else-s-h w ↦ rw w.pm-is (omega arith, inv.1, simp length-set inv.2, written_more nan f s pm _ i inv.3 (inv.4 s (omega arith) ∙ stays h b pm₀ s (w.if-s-h.false ∙ inv.1)), kept_more nan pm₀ s pm _ inv.4)
    ]

pub shape_of-pm : goal.shape_of-pm
shape_of-pm c = c.loop-s.invariant.2

pub returns : goal.returns
unfolding ruled
returns c =
    let at = c in
    let start = at in
    let inv = at.loop-s.invariant in
    let e : at.loop-s.s ≡ 2 * start.args.h = omega arith in
    written_whole nan (ruled_at start.args.h start.args.b start.args.pm.now) (2 * start.args.h) at.loop-s.pm (omega arith) (rw e at inv).3

use native.Mathlib.Nat.{not-suc-le-zero}
use mathlib.Core.Path.{◌≡◌, refl, sym, ◌∙◌}
use Prim.Native.Nat.{◌+◌, ◌-◌, ◌*◌, ◌<◌}
use native.Mathlib.Omega.{arith}
use borrow.Author.Rules.{rules}
use lib.ListN.{length, set, length-set}
use Rattle.trellis.specs.Code.{state_at}
use Rattle.isdbt_table.specs.Puncture.{mother}
use Rattle.trellis.specs.Encoded.{low_bits}
use Rattle.isdbt_fec.specs.EncodeLaws.{state_next, state_below, mother_x, mother_y, written_pair}
use Rattle.trellis.proofs.EncodedLaws.{low_at}
use Rattle.isdbt_fec.proofs.conv.encode_period.Goals as goal

pub loop-i-init : goal.loop-i-init
unfolding state_at
loop-i-init c = (search rules, refl, refl, (λ k h. absurd (not-suc-le-zero h)))

pub encode_bit-c-requires : goal.encode_bit-c-requires
encode_bit-c-requires c =
    let at = c in
    let a = at.args in
    rw at.loop-i.invariant.1 (state_below a.state a.bits.now at.loop-i.i at.requires.0)

pub loop-i-preserved : goal.loop-i-preserved
loop-i-preserved c =
    let at = c in
    let a = at.args in
    let us = low_bits a.bits.now in
    let i = at.loop-i.i in
    let m = at.loop-i.m in
    let inv = at.loop-i.invariant in
    let x = c.encode_bit-c.result.x in
    let y = c.encode_bit-c.result.y in
    let e = c.encode_bit-c.ensures in
    let u = sym (low_at a.bits.now i) in
    let room : 2 * i + 1 < length m = omega arith in (
      omega arith,
      rw (inv.1, u) at e.2 ∙ sym (state_next a.state us i),
      length-set (set m (2 * i) x) (2 * i + 1) y ∙ length-set m (2 * i) x ∙ inv.2,
      written_pair (mother a.state us) m i x y room (rw (inv.1, u) at e.0 ∙ sym (mother_x a.state us i)) (rw (inv.1, u) at e.1 ∙ sym (mother_y a.state us i)) inv.3,
    )

pub returns : goal.returns
returns c =
    let at = c in
    let n = length at.args.bits.now in
    let e : at.loop-i.i ≡ n = omega arith in
    (rw e at at.loop-i.invariant.1, rw e at at.loop-i.invariant.3)

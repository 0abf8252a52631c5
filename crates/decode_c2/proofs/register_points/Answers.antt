use borrow.Author.Rules.{rules}
use native.Mathlib.Omega.{arith}
use native.Mathlib.Nat.{not-suc-le-zero}
use mathlib.Core.Path.{◌≡◌, refl, ap}
use Prim.Native.Nat.{◌-◌, ◌<◌}
use lib.Ieee.{nan}
use lib.ListN.{length, length-set}
use Rattle.trellis.specs.WrittenLaws.{written_more}
use Rattle.isdbs_points.specs.declared.Cplx.{Cplx}
use Rattle.decode_c2.specs.Registers.{register_point}
use Rattle.isdbs_metrics.specs.DigitLaws.{outputs_small}
use Rattle.decode_c2.proofs.PointMade.{point_made}
use Rattle.decode_c2.proofs.register_points.Goals as goal

pub loop-k-init : goal.loop-k-init
loop-k-init c = (search rules, refl, refl, λ i h. absurd (not-suc-le-zero h), λ i h. absurd (not-suc-le-zero h))

pub overflow_mul-c : goal.overflow_mul-c
overflow_mul-c c =
    let en = c.encode_bit-c.ensures in
    let l = outputs_small _ _ en.0 en.1 in
    record { fits = omega arith }

pub overflow_add-c : goal.overflow_add-c
overflow_add-c c =
    let en = c.encode_bit-c.ensures in
    let l = outputs_small _ _ en.0 en.1 in
    record { fits = omega arith }

pub loop-k-preserved : goal.loop-k-preserved
loop-k-preserved c =
    let chosen = c in
    let at = c in
    let y = at.args.c1_is_y in
    let k = at.loop-k.k in
    let inv = at.loop-k.invariant in
    let en = chosen.encode_bit-c.ensures in
    let of = chosen.subset_of.ensures in
    let is : c.psk8_point-p.result ≡ register_point y k = point_made y k _ _ _ _ (omega arith) en.0 en.1 of.0 of.1 c.psk8_point-p.ensures in
    let hr : k < length at.loop-k.re = omega arith in
    let hi : k < length at.loop-k.im = omega arith in (
      omega arith,
      simp length-set inv.1,
      simp length-set inv.2,
      written_more nan (λ i. (register_point y i).re) k at.loop-k.re _ hr inv.3 (ap (λ (p : Cplx). p.re) is),
      written_more nan (λ i. (register_point y i).im) k at.loop-k.im _ hi inv.4 (ap (λ (p : Cplx). p.im) is),
    )

pub returns : goal.returns
returns c =
    let at = c in
    let e : at.loop-k.k ≡ 128 = omega arith in
    let inv = rw e at at.loop-k.invariant in
    record { re_at = inv.3; im_at = inv.4 }

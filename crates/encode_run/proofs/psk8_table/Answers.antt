use native.Mathlib.Nat.{not-suc-le-zero, mod-mod}
use borrow.Author.Rules.{rules}
use native.Mathlib.Omega.{arith}
use mathlib.Core.Path.{◌≡◌, refl, ◌∙◌, ap}
use Prim.Native.Nat.{◌+◌, ◌*◌, ◌-◌, ◌/◌, ◌%◌}
use lib.Ieee.{nan}
use lib.ListN.{length-set}
use Rattle.isdbs_points.specs.declared.Cplx.{Cplx}
use Rattle.isdbs_points.specs.Points.{psk8_of, subset, conjugated}
use Rattle.encode_run.specs.Encoded.{psk8_label}
use Rattle.trellis.specs.WrittenLaws.{written_more}
use Rattle.encode_run.proofs.psk8_table.Goals as goal

pub loop-l-init : goal.loop-l-init
loop-l-init c = (search rules, refl, refl, λ i h. absurd (not-suc-le-zero h), λ i h. absurd (not-suc-le-zero h))

pub loop-l-preserved : goal.loop-l-preserved
loop-l-preserved c =
    let l = c.loop-l.l in
    let m = c.args.m in
    let inv = c.loop-l.invariant in
    let s = c.subset_of-c1_c0.ensures in
    let h : (4 * (l / 4) + c.subset_of-c1_c0.result) % 8 ≡ 4 * (l / 4) + c.subset_of-c1_c0.result = omega (arith, s.1) in
    let p : c.psk8_point-p.result ≡ psk8_of (4 * (l / 4) + subset m.tc8psk_c1_is_y (l % 4)) = c.psk8_point-p.ensures ∙ rw (h, s.0, mod-mod l 4) in
    let re = c.psk8_point-p.result.re in
    let im = c.mirror.result in (
      omega arith,
      length-set c.loop-l.re l re ∙ inv.1,
      length-set c.loop-l.im l im ∙ inv.2,
      written_more nan (λ i. (psk8_label m i).re) l c.loop-l.re re (omega arith) inv.3 (ap (λ (z : Cplx). z.re) p),
      written_more nan (λ i. (psk8_label m i).im) l c.loop-l.im im (omega arith) inv.4 (c.mirror.ensures ∙ ap (λ (z : Cplx). conjugated m.conjugate z.im) p),
    )

pub returns : goal.returns
returns c =
    let inv = c.loop-l.invariant in
    let e : c.loop-l.l ≡ 8 = omega arith in
    record { re_at = rw e at inv.3; im_at = rw e at inv.4 }

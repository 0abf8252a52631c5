use Rattle.header_align.specs.Align.{bad_points}
use Rattle.full_frame_parts.specs.RowLaws.{frame_long}
use Rattle.full_frame_parts.specs.Rows.{short_frame}
use lib.ListN.{length}
use mathlib.Core.Bool.{true, false}
use native.Mathlib.Omega.{arith}
use mathlib.Core.Path.{◌≡◌, refl, sym, ◌∙◌}
use Rattle.header_align.proofs.align_front.Goals as goal

pub returns-then-bad_points : goal.returns-then-bad_points
returns-then-bad_points c =
    let x = c.args in
    let e : bad_points x.re.now x.im.now x.mean.power ≡ true = sym c.bad_points.ensures ∙ c.if-bad_points.true in
    record { answers = rw e refl; real = refl; imaginary = refl }

pub returns-then-short_frame : goal.returns-then-short_frame
returns-then-short_frame c =
    let good = c in
    let x = good.args in
    let e : bad_points x.re.now x.im.now x.mean.power ≡ false = sym good.bad_points.ensures ∙ good.if-bad_points.false in
    let f : short_frame (length x.out_re.now) (length x.out_im.now) ≡ true = sym c.short_frame.ensures ∙ c.if-short_frame.true in
    record { answers = rw (e, f) refl; real = refl; imaginary = refl }

pub lay_re-requires : goal.lay_re-requires
lay_re-requires c =
    let long = c in
    let start = long in
    let x = start.args in
    let f : short_frame (length x.out_re.now) (length x.out_im.now) ≡ false = sym long.short_frame.ensures ∙ long.if-short_frame.false in
    let l = frame_long (length x.out_re.now) (length x.out_im.now) f in
    (omega arith, omega arith, omega arith)

pub lay_im-requires : goal.lay_im-requires
lay_im-requires c =
    let long = c in
    let short-frame = long in
    let start = short-frame in
    let x = start.args in
    let f : short_frame (length x.out_re.now) (length x.out_im.now) ≡ false = sym short-frame.short_frame.ensures ∙ long.if-short_frame.false in
    let l = frame_long (length x.out_re.now) (length x.out_im.now) f in
    (omega arith, omega arith, omega arith)

pub returns : goal.returns
returns c =
    let lay-re = c in
    let long = lay-re in
    let good = long in
    let start = good in
    let x = start.args in
    let e : bad_points x.re.now x.im.now x.mean.power ≡ false = sym good.bad_points.ensures ∙ good.if-bad_points.false in
    let f : short_frame (length x.out_re.now) (length x.out_im.now) ≡ false = sym long.short_frame.ensures ∙ long.if-short_frame.false in
    record { answers = rw (e, f) refl; real = lay-re.lay_re.ensures; imaginary = c.lay_im.ensures }

use Rattle.header_align.proofs.Rest.{rest_whole, rest_long}
use Rattle.header_sync.proofs.FitLaws.{frame_there}
use Rattle.header_sync.specs.Fits.{no_frame}
use lib.ListN.{length}
use mathlib.Core.Bool.{true, false}
use native.Mathlib.Omega.{arith}
use mathlib.Core.Path.{◌≡◌, refl, sym, ◌∙◌}
use Rattle.header_align.proofs.align_frame.Goals as goal

pub returns-then-no_frame : goal.returns-then-no_frame
returns-then-no_frame c =
    let at = c in
    let x = at.args in
    let e : no_frame (length x.re.now) (length x.im.now) x.at ≡ true = sym at.no_frame.ensures ∙ at.if-no_frame.true in
    record { answers = rw e refl; real = refl; imaginary = refl }

pub fit_here-fit-requires : goal.fit_here-fit-requires
fit_here-fit-requires c =
    let at = c in
    let x = at.args in
    let e : no_frame (length x.re.now) (length x.im.now) x.at ≡ false = sym at.no_frame.ensures ∙ at.if-no_frame.false in
    let t = frame_there (length x.re.now) (length x.im.now) x.at e in
    (t.0, t.1)

pub mean_at-mean-requires : goal.mean_at-mean-requires
mean_at-mean-requires c =
    let at = c in
    let x = at.args in
    let e : no_frame (length x.re.now) (length x.im.now) x.at ≡ false = sym at.no_frame.ensures ∙ at.if-no_frame.false in
    let t = frame_there (length x.re.now) (length x.im.now) x.at e in
    (t.0, t.1)

pub offset_bounds-re-at : goal.offset_bounds-re-at
offset_bounds-re-at c =
    let at = c in
    let x = at.args in
    let e : no_frame (length x.re.now) (length x.im.now) x.at ≡ false = sym at.no_frame.ensures ∙ at.if-no_frame.false in
    let t = frame_there (length x.re.now) (length x.im.now) x.at e in
    omega (arith, at.well_formed.0.1)

pub slice_bounds-align_front-count : goal.slice_bounds-align_front-count
slice_bounds-align_front-count c =
    let at = c in
    let x = at.args in
    let e : no_frame (length x.re.now) (length x.im.now) x.at ≡ false = sym at.no_frame.ensures ∙ at.if-no_frame.false in
    let t = frame_there (length x.re.now) (length x.im.now) x.at e in
    omega arith

pub slice_bounds-align_front-start : goal.slice_bounds-align_front-start
slice_bounds-align_front-start c =
    let at = c in
    let x = at.args in
    let e : no_frame (length x.re.now) (length x.im.now) x.at ≡ false = sym at.no_frame.ensures ∙ at.if-no_frame.false in
    let t = frame_there (length x.re.now) (length x.im.now) x.at e in
    omega arith

pub offset_bounds-im-at : goal.offset_bounds-im-at
offset_bounds-im-at c =
    let at = c in
    let x = at.args in
    let e : no_frame (length x.re.now) (length x.im.now) x.at ≡ false = sym at.no_frame.ensures ∙ at.if-no_frame.false in
    let t = frame_there (length x.re.now) (length x.im.now) x.at e in
    omega (arith, at.well_formed.1.0.1)

pub slice_bounds-align_front-count-2 : goal.slice_bounds-align_front-count-2
slice_bounds-align_front-count-2 c =
    let at = c in
    let x = at.args in
    let e : no_frame (length x.re.now) (length x.im.now) x.at ≡ false = sym at.no_frame.ensures ∙ at.if-no_frame.false in
    let t = frame_there (length x.re.now) (length x.im.now) x.at e in
    omega arith

pub slice_bounds-align_front-start-2 : goal.slice_bounds-align_front-start-2
slice_bounds-align_front-start-2 c =
    let at = c in
    let x = at.args in
    let e : no_frame (length x.re.now) (length x.im.now) x.at ≡ false = sym at.no_frame.ensures ∙ at.if-no_frame.false in
    let t = frame_there (length x.re.now) (length x.im.now) x.at e in
    omega arith

pub align_front-requires : goal.align_front-requires
align_front-requires c =
    let at = c in
    let x = at.args in
    let e : no_frame (length x.re.now) (length x.im.now) x.at ≡ false = sym at.no_frame.ensures ∙ at.if-no_frame.false in
    let t = frame_there (length x.re.now) (length x.im.now) x.at e in
    (rest_long x.at 39936 x.re.now t.0, rest_long x.at 39936 x.im.now t.1)

pub returns : goal.returns
returns c =
    let call = c in
    let mean-at = call in
    let at = mean-at in
    let start = at in
    let x = start.args in
    let e : no_frame (length x.re.now) (length x.im.now) x.at ≡ false = sym at.no_frame.ensures ∙ at.if-no_frame.false in
    let f = mean-at.fit_here-fit.ensures.0 in
    let m = mean-at.mean_at-mean.ensures in
    let a = call.align_front.ensures in
    let p = rest_whole x.at x.re.now in
    let q = rest_whole x.at x.im.now in
    record { answers = rw e (rw (m, f, p, q) at a.answers); real = rw (m, f, p, q) at a.real; imaginary = rw (m, f, p, q) at a.imaginary }

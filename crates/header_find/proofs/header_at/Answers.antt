use mathlib.Core.Path.{◌≡◌, refl, sym, ◌∙◌}
use Rattle.header_sync.proofs.FitLaws.{frame_there}
use Rattle.header_sync.specs.Fits.{no_frame}
use lib.ListN.{length}
use mathlib.Core.Bool.{true, false}
use Rattle.header_find.proofs.header_at.Goals as goal

pub returns-then-no_frame : goal.returns-then-no_frame
returns-then-no_frame c =
    let at = c in
    let x = at.args in
    let e : no_frame (length x.re.now) (length x.im.now) x.at ≡ true = sym at.no_frame.ensures ∙ at.if-no_frame.true in
    rw e refl

pub header_here-requires : goal.header_here-requires
header_here-requires c =
    let at = c in
    let x = at.args in
    let e : no_frame (length x.re.now) (length x.im.now) x.at ≡ false = sym at.no_frame.ensures ∙ at.if-no_frame.false in
    let t = frame_there (length x.re.now) (length x.im.now) x.at e in
    (t.0, t.1)

pub returns : goal.returns
returns c =
    let at = c in
    let x = at.args in
    let e : no_frame (length x.re.now) (length x.im.now) x.at ≡ false = sym at.no_frame.ensures ∙ at.if-no_frame.false in
    rw (e, c.header_here.ensures.0) refl

use mathlib.Core.Path.{◌≡◌, refl, sym, ◌∙◌}
use Rattle.header_sync.proofs.FitLaws.{frame_there}
use Rattle.header_sync.specs.Fits.{no_frame}
use lib.ListN.{length}
use mathlib.Core.Bool.{true, false}
use native.Mathlib.Omega.{arith}
use Rattle.header_find.proofs.find_frame.Goals as goal

pub returns-then-no_frame : goal.returns-then-no_frame
returns-then-no_frame c =
    let at = c in
    let x = at.args in
    let e : no_frame (length x.re.now) (length x.im.now) x.from ≡ true = sym at.no_frame.ensures ∙ at.if-no_frame.true in
    rw e refl

pub further_of-count-requires : goal.further_of-count-requires
further_of-count-requires c =
    let at = c in
    let x = at.args in
    let e : no_frame (length x.re.now) (length x.im.now) x.from ≡ false = sym at.no_frame.ensures ∙ at.if-no_frame.false in
    let t = frame_there (length x.re.now) (length x.im.now) x.from e in
    (t.0, t.1)

pub best_here-place-requires : goal.best_here-place-requires
best_here-place-requires c =
    let at = c in
    let x = at.args in
    let e : no_frame (length x.re.now) (length x.im.now) x.from ≡ false = sym at.no_frame.ensures ∙ at.if-no_frame.false in
    let t = frame_there (length x.re.now) (length x.im.now) x.from e in
    let f = c.further_of-count.ensures in
    (omega arith, omega arith)

pub header_here-requires : goal.header_here-requires
header_here-requires c =
    let at = c in
    let x = at.args in
    let e : no_frame (length x.re.now) (length x.im.now) x.from ≡ false = sym at.no_frame.ensures ∙ at.if-no_frame.false in
    let t = frame_there (length x.re.now) (length x.im.now) x.from e in
    let f = c.further_of-count.ensures in
    let p = c.best_here-place.ensures.1 in
    (omega arith, omega arith)

pub returns : goal.returns
returns c =
    let at = c in
    let x = at.args in
    let e : no_frame (length x.re.now) (length x.im.now) x.from ≡ false = sym at.no_frame.ensures ∙ at.if-no_frame.false in
    rw (e, c.doubted_of-header.ensures, c.header_here.ensures.0, c.best_here-place.ensures.0, c.further_of-count.ensures) refl

use Rattle.std.proofs.Common.{◌≡◌, false, length, sym, ◌∙◌}
use Rattle.header_sync.proofs.FitLaws.{frame_there}
use Rattle.header_sync.specs.Fits.{no_frame}
use Rattle.bench_frames.proofs.words.mean_there.Goals as goal

pub mean_at-requires : goal.mean_at-requires
mean_at-requires c =
    let at = c in
    let x = at.args in
    let e : no_frame (length x.re.now) (length x.im.now) x.at ≡ false = sym at.no_frame.ensures ∙ at.if-no_frame.false in
    let t = frame_there (length x.re.now) (length x.im.now) x.at e in
    (t.0, t.1)

-- `isdbs_lay_frame` meets its contract.
use mathlib.Core.Path.{◌≡◌, ◌∙◌, ap}
use Rattle.refusal.specs.Rows.{number_of}
use Rattle.full_frame_parts.specs.Places.{lent_inputs, full_part}
use Rattle.c_frame.proofs.FullFrames.{by_number}
use Rattle.c_frame.proofs.full.isdbs_lay_frame.Goals as goal

pub returns : goal.returns
returns c =
    let lay = c in
    let start = lay in
    let x = start.args in
    let a = lay.lay-a.result in
    let e = lay.lay-a.ensures in
    let n = c.number.result in
    let m : n ≡ number_of a = c.number.ensures in
    record {
      answers = m ∙ ap number_of e.answers;
      real = by_number n a m (full_part (lent_inputs x.header_re.now x.main_re.now x.burst_re.now)) x.re.now e.real;
      imaginary = by_number n a m (full_part (lent_inputs x.header_im.now x.main_im.now x.burst_im.now)) x.im.now e.imaginary;
    }

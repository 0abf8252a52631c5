-- `isdbs_take_frame` meets its contract.
use mathlib.Core.Path.{◌≡◌, ◌∙◌, ap}
use Rattle.refusal.specs.Rows.{number_of}
use Rattle.full_frame_parts.specs.declared.Input.TheVariants.{Header, Main, Burst}
use Rattle.full_frame_parts.specs.Places.{taken}
use Rattle.c_frame.proofs.FullFrames.{by_number}
use Rattle.c_frame.proofs.full.isdbs_take_frame.Goals as goal

pub returns : goal.returns
returns c =
    let take-apart = c in
    let start = take-apart in
    let x = start.args in
    let a = take-apart.take_apart-a.result in
    let e = take-apart.take_apart-a.ensures in
    let n = c.number.result in
    let m : n ≡ number_of a = c.number.ensures in
    record {
      answers = m ∙ ap number_of e.answers;
      header_real = by_number n a m (taken Header x.re.now) x.header_re.now e.header_real;
      header_imaginary = by_number n a m (taken Header x.im.now) x.header_im.now e.header_imaginary;
      main_real = by_number n a m (taken Main x.re.now) x.main_re.now e.main_real;
      main_imaginary = by_number n a m (taken Main x.im.now) x.main_im.now e.main_imaginary;
      burst_real = by_number n a m (taken Burst x.re.now) x.burst_re.now e.burst_real;
      burst_imaginary = by_number n a m (taken Burst x.im.now) x.burst_im.now e.burst_imaginary;
    }

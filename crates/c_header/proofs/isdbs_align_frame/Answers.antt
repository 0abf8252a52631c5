use mathlib.Core.Path.{◌≡◌, sym, ◌∙◌, ap}
use Prim.Native.Nat.{ℕ}
use Rattle.refusal.specs.Rows.{number_of}
use Rattle.trellis.specs.Lists.{laid}
use Rattle.c_answers.specs.Answers.{left}
use Rattle.header_align.specs.Align.{aligned_re, aligned_im}
use Rattle.c_header.proofs.isdbs_align_frame.Goals as goal

pub returns : goal.returns
returns c =
    let call = c in
    let start = call in
    let x = start.args in
    let e = call.align_frame-a.ensures in
    let n = c.number.result in
    let m : n ≡ number_of call.align_frame-a.result = c.number.ensures in record { answers = m ∙ ap number_of e.answers; real = e.real ∙ ap (λ (k : ℕ). left k (laid (aligned_re x.re.now x.im.now x.at) x.out_re.now) x.out_re.now) (sym m); imaginary = e.imaginary ∙ ap (λ (k : ℕ). left k (laid (aligned_im x.re.now x.im.now x.at) x.out_im.now) x.out_im.now) (sym m) }

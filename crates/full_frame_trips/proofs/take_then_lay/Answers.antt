-- `take_then_lay` meets its contract.
use mathlib.Core.Path.{◌≡◌, sym, ◌∙◌, ap}
use Rattle.std.specs.Prelude.{Err}
use Rattle.std.proofs.lemmas.Result.{err_from_is_err_and}
use mathlib.Core.Bool.{◌||◌}
use Rattle.refusal.specs.Rows.{number_of}
use Rattle.refusal.proofs.RowLaws.{zero_accepted, err_refuses}
use Rattle.full_frame_parts.specs.declared.Input.TheVariants.{Header, Main, Burst}
use Rattle.full_frame_parts.specs.Places.{lent_inputs, taken}
use Rattle.full_frame_parts.specs.Rows.{inputs_short, short_frame}
use lib.ListN.{length, take}
use Rattle.full_frame_trips.proofs.Both.{by_tests, none_short, kept, each_taken, taken_laid_again}
use Rattle.full_frame_trips.proofs.take_then_lay.Goals as goal

pub returns-in_err-first_row : goal.returns-in_err-first_row
returns-in_err-first_row c =
    let short-parts = c in
    let start = short-parts in
    let x = start.args in
    let res = lent_inputs x.header_re.now x.main_re.now x.burst_re.now in
    let ims = lent_inputs x.header_im.now x.main_im.now x.burst_im.now in
    let p = err_from_is_err_and c.from_residual.result c.from_residual.ensures.1 in
    let a = Err c.in_err-first_row.field-0.0 in
    let h = by_tests a (short_frame (length x.re.now) (length x.im.now)) (inputs_short res || inputs_short ims) (short_frame (length x.out_re.now) (length x.out_im.now)) c.short_frame-frame.ensures short-parts.short_parts-parts.ensures c.short_frame.ensures (sym c.in_err-first_row.was ∙ c.first_row.ensures) in
    let n : number_of a ≡ 0 → ⊥ = λ z. err_refuses (zero_accepted a z) in
    rw (p.1, p.2) (record { answers = h; real = kept a (take 39936 x.re.now) x.out_re.now n; imaginary = kept a (take 39936 x.im.now) x.out_im.now n; header_real = kept a (taken Header x.re.now) x.header_re.now n; header_imaginary = kept a (taken Header x.im.now) x.header_im.now n; main_real = kept a (taken Main x.re.now) x.main_re.now n; main_imaginary = kept a (taken Main x.im.now) x.main_im.now n; burst_real = kept a (taken Burst x.re.now) x.burst_re.now n; burst_imaginary = kept a (taken Burst x.im.now) x.burst_im.now n })

pub returns : goal.returns
returns c =
    let lay = c in
    let take-apart = lay in
    let at-enum-told = take-apart in
    let first-row = at-enum-told in
    let short-frame = first-row in
    let short-parts = short-frame in
    let start = short-parts in
    let x = start.args in
    let res = lent_inputs x.header_re.now x.main_re.now x.burst_re.now in
    let ims = lent_inputs x.header_im.now x.main_im.now x.burst_im.now in
    let a = first-row.first_row.result in
    let h = by_tests a (short_frame (length x.re.now) (length x.im.now)) (inputs_short res || inputs_short ims) (short_frame (length x.out_re.now) (length x.out_im.now)) short-frame.short_frame-frame.ensures short-parts.short_parts-parts.ensures first-row.short_frame.ensures first-row.first_row.ensures in
    let z : number_of a ≡ 0 = ap number_of at-enum-told.in_ok-first_row.was in
    let tests = none_short a (short_frame (length x.re.now) (length x.im.now)) (inputs_short res || inputs_short ims) (short_frame (length x.out_re.now) (length x.out_im.now)) h z in
    let b = take-apart.take_apart.result in
    let e = take-apart.take_apart.ensures in
    let g = lay.lay.ensures in
    let tr = each_taken b x.re.now x.header_re.now x.main_re.now x.burst_re.now e.header_real e.main_real e.burst_real in
    let ti = each_taken b x.im.now x.header_im.now x.main_im.now x.burst_im.now e.header_imaginary e.main_imaginary e.burst_imaginary in
    let k = taken_laid_again x.re.now x.im.now res ims x.out_re.now x.out_im.now tests _ _ b e.answers tr ti lay.lay.result g.answers in
    record { answers = k.answer; real = k.real_again _ x.out_re.now g.real; imaginary = k.imaginary_again _ x.out_im.now g.imaginary; header_real = k.real Header; header_imaginary = k.imaginary Header; main_real = k.real Main; main_imaginary = k.imaginary Main; burst_real = k.real Burst; burst_imaginary = k.imaginary Burst }

-- `lay_then_take` meets its contract.
use mathlib.Core.Path.{◌≡◌, sym, ◌∙◌, ap}
use Rattle.std.specs.Prelude.{Err}
use Rattle.std.proofs.lemmas.Result.{err_from_is_err_and}
use mathlib.Core.Bool.{◌||◌}
use Rattle.refusal.specs.Rows.{number_of}
use Rattle.refusal.proofs.RowLaws.{zero_accepted, err_refuses}
use Rattle.full_frame_parts.specs.declared.Input.TheVariants.{Header, Main, Burst}
use Rattle.full_frame_parts.specs.Places.{lent_inputs, full_part}
use Rattle.full_frame_parts.specs.Rows.{inputs_short, short_frame}
use lib.ListN.{length, take}
use Rattle.full_frame_trips.proofs.Both.{by_tests, none_short, kept, laid_taken}
use Rattle.full_frame_trips.proofs.lay_then_take.Goals as goal

pub returns-in_err-first_row : goal.returns-in_err-first_row
returns-in_err-first_row c =
    let short-parts = c in
    let start = short-parts in
    let x = start.args in
    let res = lent_inputs x.header_re.now x.main_re.now x.burst_re.now in
    let ims = lent_inputs x.header_im.now x.main_im.now x.burst_im.now in
    let outs = lent_inputs x.out_header_re.now x.out_main_re.now x.out_burst_re.now in
    let outs' = lent_inputs x.out_header_im.now x.out_main_im.now x.out_burst_im.now in
    let p = err_from_is_err_and c.from_residual.result c.from_residual.ensures.1 in
    let a = Err c.in_err-first_row.field-0.0 in
    let h = by_tests a (inputs_short res || inputs_short ims) (short_frame (length x.re.now) (length x.im.now)) (inputs_short outs || inputs_short outs') short-parts.short_parts-inputs.ensures c.short_frame.ensures c.short_parts-outputs.ensures (sym c.in_err-first_row.was ∙ c.first_row.ensures) in
    let n : number_of a ≡ 0 → ⊥ = λ z. err_refuses (zero_accepted a z) in
    rw (p.1, p.2) (record { answers = h; real = kept a (full_part res) x.re.now n; imaginary = kept a (full_part ims) x.im.now n; header_real = kept a (take 192 x.header_re.now) x.out_header_re.now n; header_imaginary = kept a (take 192 x.header_im.now) x.out_header_im.now n; main_real = kept a (take 38976 x.main_re.now) x.out_main_re.now n; main_imaginary = kept a (take 38976 x.main_im.now) x.out_main_im.now n; burst_real = kept a (take 768 x.burst_re.now) x.out_burst_re.now n; burst_imaginary = kept a (take 768 x.burst_im.now) x.out_burst_im.now n })

pub returns : goal.returns
returns c =
    let take-apart = c in
    let lay = take-apart in
    let at-enum-told = lay in
    let first-row = at-enum-told in
    let short-parts2 = first-row in
    let short-parts = short-parts2 in
    let start = short-parts in
    let x = start.args in
    let res = lent_inputs x.header_re.now x.main_re.now x.burst_re.now in
    let ims = lent_inputs x.header_im.now x.main_im.now x.burst_im.now in
    let outs = lent_inputs x.out_header_re.now x.out_main_re.now x.out_burst_re.now in
    let outs' = lent_inputs x.out_header_im.now x.out_main_im.now x.out_burst_im.now in
    let a = first-row.first_row.result in
    let h = by_tests a (inputs_short res || inputs_short ims) (short_frame (length x.re.now) (length x.im.now)) (inputs_short outs || inputs_short outs') short-parts.short_parts-inputs.ensures first-row.short_frame.ensures short-parts2.short_parts-outputs.ensures first-row.first_row.ensures in
    let z : number_of a ≡ 0 = ap number_of at-enum-told.in_ok-first_row.was in
    let tests = none_short a (inputs_short res || inputs_short ims) (short_frame (length x.re.now) (length x.im.now)) (inputs_short outs || inputs_short outs') h z in
    let e = lay.lay.ensures in
    let g = take-apart.take_apart.ensures in
    let k = laid_taken res ims x.re.now x.im.now outs outs' tests _ _ lay.lay.result e.answers e.real e.imaginary take-apart.take_apart.result g.answers in
    record { answers = k.answer; real = k.real; imaginary = k.imaginary; header_real = k.real_back Header _ x.out_header_re.now g.header_real; header_imaginary = k.imaginary_back Header _ x.out_header_im.now g.header_imaginary; main_real = k.real_back Main _ x.out_main_re.now g.main_real; main_imaginary = k.imaginary_back Main _ x.out_main_im.now g.main_imaginary; burst_real = k.real_back Burst _ x.out_burst_re.now g.burst_real; burst_imaginary = k.imaginary_back Burst _ x.out_burst_im.now g.burst_imaginary }

-- `take_apart` meets its contract.
use Rattle.full_frame_parts.specs.RowLaws.{inputs_long, frame_long}
use Rattle.full_frame_parts.specs.Rows.{short_inputs, short_frame}
use lib.ListN.{length}
use native.Mathlib.Omega.{arith}
use mathlib.Core.Bool.{true, false}
use mathlib.Core.Path.{◌≡◌, refl, sym, ◌∙◌}
use Rattle.full_frame.proofs.take_apart.Goals as goal

pub returns-then-short_frame : goal.returns-then-short_frame
returns-then-short_frame c =
    let start = c in
    let x = start.args in
    let e : short_frame (length x.re.now) (length x.im.now) ≡ true = sym c.short_frame.ensures ∙ c.if-short_frame.true in
    record { answers = rw e; header_real = refl; header_imaginary = refl; main_real = refl; main_imaginary = refl; burst_real = refl; burst_imaginary = refl }

pub returns-then-short_inputs : goal.returns-then-short_inputs
returns-then-short_inputs c =
    let start = c in
    let x = start.args in
    let e : short_frame (length x.re.now) (length x.im.now) ≡ false = sym c.short_frame.ensures ∙ c.if-short_frame.false in
    let f : short_inputs (length x.header_re.now) (length x.main_re.now) (length x.burst_re.now) ≡ true = sym c.short_inputs.ensures ∙ c.if-short_inputs.true in
    record { answers = rw (e, f); header_real = refl; header_imaginary = refl; main_real = refl; main_imaginary = refl; burst_real = refl; burst_imaginary = refl }

pub returns-then-short_inputs-2 : goal.returns-then-short_inputs-2
returns-then-short_inputs-2 c =
    let if1 = c in
    let short-frame = if1 in
    let start = short-frame in
    let x = start.args in
    let e : short_frame (length x.re.now) (length x.im.now) ≡ false = sym short-frame.short_frame.ensures ∙ if1.if-short_frame.false in
    let f : short_inputs (length x.header_re.now) (length x.main_re.now) (length x.burst_re.now) ≡ false = sym c.short_inputs.ensures ∙ c.if-short_inputs.false in
    let g : short_inputs (length x.header_im.now) (length x.main_im.now) (length x.burst_im.now) ≡ true = sym c.short_inputs-2.ensures ∙ c.if-short_inputs-2.true in
    record { answers = rw (e, f, g); header_real = refl; header_imaginary = refl; main_real = refl; main_imaginary = refl; burst_real = refl; burst_imaginary = refl }

pub take_part-requires : goal.take_part-requires
take_part-requires c =
    let short-inputs2 = c in
    let short-inputs = short-inputs2 in
    let short-frame = short-inputs in
    let start = short-frame in
    let x = start.args in
    let e : short_frame (length x.re.now) (length x.im.now) ≡ false = sym short-frame.short_frame.ensures ∙ short-inputs.if-short_frame.false in
    let f : short_inputs (length x.header_re.now) (length x.main_re.now) (length x.burst_re.now) ≡ false = sym short-inputs.short_inputs.ensures ∙ short-inputs2.if-short_inputs.false in
    let g : short_inputs (length x.header_im.now) (length x.main_im.now) (length x.burst_im.now) ≡ false = sym short-inputs2.short_inputs-2.ensures ∙ c.if-short_inputs-2.false in
    let l = frame_long (length x.re.now) (length x.im.now) e in
    let p = inputs_long (length x.header_re.now) (length x.main_re.now) (length x.burst_re.now) f in
    (omega arith, omega arith, omega arith, omega arith)

pub take_part-requires-2 : goal.take_part-requires-2
take_part-requires-2 c =
    let if3 = c in
    let if2 = if3 in
    let if1 = if2 in
    let short-frame = if1 in
    let start = short-frame in
    let x = start.args in
    let e : short_frame (length x.re.now) (length x.im.now) ≡ false = sym short-frame.short_frame.ensures ∙ if1.if-short_frame.false in
    let f : short_inputs (length x.header_re.now) (length x.main_re.now) (length x.burst_re.now) ≡ false = sym if2.short_inputs.ensures ∙ if2.if-short_inputs.false in
    let g : short_inputs (length x.header_im.now) (length x.main_im.now) (length x.burst_im.now) ≡ false = sym if3.short_inputs-2.ensures ∙ if3.if-short_inputs-2.false in
    let l = frame_long (length x.re.now) (length x.im.now) e in
    let p = inputs_long (length x.header_im.now) (length x.main_im.now) (length x.burst_im.now) g in
    (omega arith, omega arith, omega arith, omega arith)

pub returns : goal.returns
returns c =
    let take-part2 = c in
    let take_part = take-part2 in
    let if3 = take_part in
    let if2 = if3 in
    let if1 = if2 in
    let short-frame = if1 in
    let start = short-frame in
    let x = start.args in
    let e : short_frame (length x.re.now) (length x.im.now) ≡ false = sym short-frame.short_frame.ensures ∙ if1.if-short_frame.false in
    let f : short_inputs (length x.header_re.now) (length x.main_re.now) (length x.burst_re.now) ≡ false = sym if2.short_inputs.ensures ∙ if2.if-short_inputs.false in
    let g : short_inputs (length x.header_im.now) (length x.main_im.now) (length x.burst_im.now) ≡ false = sym if3.short_inputs-2.ensures ∙ if3.if-short_inputs-2.false in
    let t = take_part.take_part.ensures in
    let u = take-part2.take_part-2.ensures in
    record { answers = rw (e, f, g); header_real = t.0; header_imaginary = u.0; main_real = t.1; main_imaginary = u.1; burst_real = t.2; burst_imaginary = u.2 }

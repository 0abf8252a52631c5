-- `lay` meets its contract.
use Rattle.full_frame_parts.specs.RowLaws.{inputs_long, frame_long}
use Rattle.full_frame_parts.specs.Rows.{short_inputs, short_frame}
use lib.ListN.{length}
use native.Mathlib.Omega.{arith}
use mathlib.Core.Bool.{true, false}
use mathlib.Core.Path.{◌≡◌, refl, sym, ◌∙◌}
use Rattle.full_frame.proofs.lay.Goals as goal

pub returns-then-short_inputs : goal.returns-then-short_inputs
returns-then-short_inputs c =
    let start = c in
    let x = start.args in
    let e : short_inputs (length x.header_re.now) (length x.main_re.now) (length x.burst_re.now) ≡ true = sym c.short_inputs.ensures ∙ c.if-short_inputs.true in
    record { answers = rw e; real = refl; imaginary = refl }

pub returns-then-short_inputs-2 : goal.returns-then-short_inputs-2
returns-then-short_inputs-2 c =
    let start = c in
    let x = start.args in
    let e : short_inputs (length x.header_re.now) (length x.main_re.now) (length x.burst_re.now) ≡ false = sym c.short_inputs.ensures ∙ c.if-short_inputs.false in
    let f : short_inputs (length x.header_im.now) (length x.main_im.now) (length x.burst_im.now) ≡ true = sym c.short_inputs-2.ensures ∙ c.if-short_inputs-2.true in
    record { answers = rw (e, f); real = refl; imaginary = refl }

pub returns-then-short_frame : goal.returns-then-short_frame
returns-then-short_frame c =
    let if1 = c in
    let short-inputs = if1 in
    let start = short-inputs in
    let x = start.args in
    let e : short_inputs (length x.header_re.now) (length x.main_re.now) (length x.burst_re.now) ≡ false = sym short-inputs.short_inputs.ensures ∙ if1.if-short_inputs.false in
    let f : short_inputs (length x.header_im.now) (length x.main_im.now) (length x.burst_im.now) ≡ false = sym c.short_inputs-2.ensures ∙ c.if-short_inputs-2.false in
    let g : short_frame (length x.re.now) (length x.im.now) ≡ true = sym c.short_frame.ensures ∙ c.if-short_frame.true in
    record { answers = rw (e, f, g); real = refl; imaginary = refl }

pub lay_part-requires : goal.lay_part-requires
lay_part-requires c =
    let short-inputs2 = c in
    let short-inputs = short-inputs2 in
    let start = short-inputs in
    let x = start.args in
    let e : short_inputs (length x.header_re.now) (length x.main_re.now) (length x.burst_re.now) ≡ false = sym short-inputs.short_inputs.ensures ∙ short-inputs2.if-short_inputs.false in
    let f : short_inputs (length x.header_im.now) (length x.main_im.now) (length x.burst_im.now) ≡ false = sym short-inputs2.short_inputs-2.ensures ∙ c.if-short_inputs-2.false in
    let g : short_frame (length x.re.now) (length x.im.now) ≡ false = sym c.short_frame.ensures ∙ c.if-short_frame.false in
    let p = inputs_long (length x.header_re.now) (length x.main_re.now) (length x.burst_re.now) e in
    let l = frame_long (length x.re.now) (length x.im.now) g in
    (omega arith, omega arith, omega arith, omega arith)

pub lay_part-requires-2 : goal.lay_part-requires-2
lay_part-requires-2 c =
    let if3 = c in
    let if2 = if3 in
    let if1 = if2 in
    let short-inputs = if1 in
    let start = short-inputs in
    let x = start.args in
    let e : short_inputs (length x.header_re.now) (length x.main_re.now) (length x.burst_re.now) ≡ false = sym short-inputs.short_inputs.ensures ∙ if1.if-short_inputs.false in
    let f : short_inputs (length x.header_im.now) (length x.main_im.now) (length x.burst_im.now) ≡ false = sym if2.short_inputs-2.ensures ∙ if2.if-short_inputs-2.false in
    let g : short_frame (length x.re.now) (length x.im.now) ≡ false = sym if3.short_frame.ensures ∙ if3.if-short_frame.false in
    let p = inputs_long (length x.header_im.now) (length x.main_im.now) (length x.burst_im.now) f in
    let l = frame_long (length x.re.now) (length x.im.now) g in
    let q = inputs_long (length x.header_re.now) (length x.main_re.now) (length x.burst_re.now) e in
    (omega arith, omega arith, omega arith, omega arith)

pub returns : goal.returns
returns c =
    let lay-part = c in
    let if3 = lay-part in
    let if2 = if3 in
    let if1 = if2 in
    let short-inputs = if1 in
    let start = short-inputs in
    let x = start.args in
    let e : short_inputs (length x.header_re.now) (length x.main_re.now) (length x.burst_re.now) ≡ false = sym short-inputs.short_inputs.ensures ∙ if1.if-short_inputs.false in
    let f : short_inputs (length x.header_im.now) (length x.main_im.now) (length x.burst_im.now) ≡ false = sym if2.short_inputs-2.ensures ∙ if2.if-short_inputs-2.false in
    let g : short_frame (length x.re.now) (length x.im.now) ≡ false = sym if3.short_frame.ensures ∙ if3.if-short_frame.false in
    record { answers = rw (e, f, g); real = lay-part.lay_part.ensures; imaginary = c.lay_part-2.ensures }

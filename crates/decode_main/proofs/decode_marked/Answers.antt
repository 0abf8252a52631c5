-- `decode_marked` meets its contract.
use mathlib.Core.Path.{◌∙◌}
use native.Mathlib.Omega.{arith}
use Rattle.isdbs_points.specs.SizeLaws.{few_steps}
use Rattle.isdbs_metrics.specs.Reading.{decoded_bits}
use Rattle.isdbs_metrics.specs.Scales.{received_by}
use Rattle.decode_main.specs.DecodedLaws.{decoded_count, decoded_binary}
use Rattle.trellis.proofs.DistanceLaws.{bits_at}
use Rattle.decode_main.proofs.Whole.{steps_are, front, final_is, marks_are}
use borrow.Author.Rules.{rules}
use Rattle.decode_main.proofs.decode_marked.Goals as goal

pub decode-requires : goal.decode-requires
decode-requires c =
    let st = c in
    let few = few_steps st.args.f.plan.table st.requires.0.accepted in
    (st.requires.0, st.requires.1, st.requires.2, st.requires.3, st.requires.4, st.requires.5, search rules)

pub overflow_add-end : goal.overflow_add-end
overflow_add-end c =
    let st = c in
    let q = steps_are st.args.f.plan st.requires.0 in
    let r = st.requires.4 in
    record { fits = omega arith }

pub slice_bounds-count_strain-end-2 : goal.slice_bounds-count_strain-end-2
slice_bounds-count_strain-end-2 c =
    let st = c in
    let q = steps_are st.args.f.plan st.requires.0 in
    search rules

pub count_strain-requires : goal.count_strain-requires
count_strain-requires c =
    let start-state = c in
    let decode = start-state in
    let st = decode in
    let p = st.args.f.plan in
    let few = few_steps p.table st.requires.0.accepted in
    let rx = received_by st.args.re.now st.args.im.now st.args.f.options.mapping st.args.f.options.scales in
    let us = decoded_bits p.table rx st.args.f.options.known_start st.args.f.first in
    let n = decoded_count p.table rx st.args.f.options.known_start st.args.f.first in
    let f = front p rx st.args.f.options.known_start st.args.f.first _ st.args.bits.now st.requires.0 decode.decode.ensures.read.decoded in (
      start-state.start_state-begun.ensures.1,
      st.requires.0,
      search rules,
      rw f (omega arith),
      λ i l. rw f (bits_at us (decoded_binary p.table rx st.args.f.options.known_start st.args.f.first) i),
      search rules,
    )

pub returns : goal.returns
returns c =
    let start-state = c in
    let decode = start-state in
    let st = decode in
    let p = st.args.f.plan in
    let rx = received_by st.args.re.now st.args.im.now st.args.f.options.mapping st.args.f.options.scales in
    let read = decode.decode.ensures in
    let f = front p rx st.args.f.options.known_start st.args.f.first _ st.args.bits.now st.requires.0 read.read.decoded ∙ final_is p.table rx st.args.f.options.known_start st.args.f.first in
    let e = start-state.start_state-begun.ensures.0 in
    let k = rw (f, e) at c.count_strain.ensures in
    record { read = read.read; counted = record { marks_are = marks_are p.table rx _ _ read.marked; counts_are = k.0; sum_is = k.1 } }

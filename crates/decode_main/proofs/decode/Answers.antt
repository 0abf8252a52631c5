-- `decode` meets its contract.
use Rattle.isdbs_metrics.specs.FrameRunLaws.{front_is}
use Rattle.trellis.proofs.DistanceLaws.{bits_at}
use Rattle.decode_main.specs.DecodedLaws.{from_count, from_binary, decoded_from}
use Rattle.decode_main.specs.Runs.{bits_from}
use Rattle.isdbs_metrics.specs.Scales.{scale_of, received_by}
use Rattle.isdbs_metrics.specs.Reading.{start_values, bytes_from, decoded_bits}
use Rattle.trellis.specs.Run.{start_at, start_unknown}
use Rattle.trellis.specs.Lists.{laid}
use Rattle.isdbs_plan.specs.declared.Plan.{Plan}
use lib.Ieee.{Float}
use lib.ListN.{take}
use native.Mathlib.Omega.{arith}
use Prim.Native.Nat.{ℕ, ◌+◌, ◌-◌}
use mathlib.Core.List.{List}
use mathlib.Core.Bool.{cond}
use mathlib.Core.Path.{◌≡◌, sym, ◌∙◌, ap}
use borrow.Author.Rules.{rules}
use Rattle.decode_main.proofs.decode.Goals as goal

pub overflow_add-end : goal.overflow_add-end
overflow_add-end c =
    let st = c in
    let ps = ap (λ (z : Plan). z.steps) st.requires.0.is in
    let r = st.requires.4 in
    record { fits = omega arith }

pub slice_bounds-write_bytes-end : goal.slice_bounds-write_bytes-end
slice_bounds-write_bytes-end c =
    let st = c in
    let ps = ap (λ (z : Plan). z.steps) st.requires.0.is in
    search rules

pub write_bytes-requires : goal.write_bytes-requires
write_bytes-requires c =
    let decode-bits = c in
    let start-values = decode-bits in
    let start-state = start-values in
    let st = start-state in
    let rx = received_by st.args.re.now st.args.im.now st.args.f.options.mapping st.args.f.options.scales in
    let pm = start-values.start_values-start.result in
    let db = decode-bits.decode_bits in
    let n = from_count st.args.f.plan.table rx pm in
    let ps = ap (λ (z : Plan). z.steps) st.requires.0.is in
    let front : take (st.args.f.plan.steps + 16 - 0) db.new.bits ≡ bits_from st.args.f.plan.table rx pm = front_is _ (bits_from st.args.f.plan.table rx pm) st.args.bits.now (st.args.f.plan.steps + 16 - 0) db.ensures.read.0 (omega arith) in (
      start-state.start_state-state.ensures.1,
      st.requires.0,
      st.requires.1,
      st.requires.2,
      rw front (omega arith),
      λ i l. rw front (bits_at (bits_from st.args.f.plan.table rx pm) (from_binary st.args.f.plan.table rx pm) i),
      search rules,
    )

pub returns : goal.returns
unfolding bytes_from
returns c =
    let decode-bits = c in
    let start-values = decode-bits in
    let start-state = start-values in
    let st = start-state in
    let rx = received_by st.args.re.now st.args.im.now st.args.f.options.mapping st.args.f.options.scales in
    let pm = start-values.start_values-start.result in
    let db = decode-bits.decode_bits in
    let n = from_count st.args.f.plan.table rx pm in
    let ps = ap (λ (z : Plan). z.steps) st.requires.0.is in
    let front : take (st.args.f.plan.steps + 16 - 0) db.new.bits ≡ bits_from st.args.f.plan.table rx pm = front_is _ (bits_from st.args.f.plan.table rx pm) st.args.bits.now (st.args.f.plan.steps + 16 - 0) db.ensures.read.0 (omega arith) in
    let es = start-state.start_state-state.ensures.0 in
    let epm : pm ≡ start_values st.args.f.options.known_start st.args.f.first = start-values.start_values-start.ensures ∙ ap (λ (z : ℕ). cond st.args.f.options.known_start (start_at 64 z) (start_unknown 64)) es in
    let whole : bits_from st.args.f.plan.table rx pm ≡ decoded_bits st.args.f.plan.table rx st.args.f.options.known_start st.args.f.first =
    ap (λ (z : List Float). bits_from st.args.f.plan.table rx z) epm ∙ sym (decoded_from st.args.f.plan.table rx st.args.f.options.known_start st.args.f.first) in
    record {
      read = record {
        words = db.ensures.read.1;
        decoded = db.ensures.read.0 ∙ ap (λ (z : List ℕ). laid z st.args.bits.now) whole;
        load = rw (front ∙ whole, es) at (c.write_bytes.ensures (scale_of st.args.f.options.scales));
      };
      marked = db.ensures.marked;
    }

-- `read_fronts` meets its contract.
use mathlib.Core.Path.{refl, sym}
use Prim.Native.Nat.{◌*◌}
use lib.Seq.{length-take-le, length_front}
use Rattle.isdbs_metrics.specs.Scales.{received_by}
use Rattle.best_frame.specs.Lent.{lent, lengths}
use Rattle.best_frame.specs.ReadLaws.{four_fits, kept_fits, marks_fit, fronts, just, left_of}
use Rattle.best_frame.proofs.read_fronts.Goals as goal

pub overflow_mul-four : goal.overflow_mul-four
overflow_mul-four c =
    let st = c in
    four_fits st.args.p st.requires.0

pub overflow_mul-kept : goal.overflow_mul-kept
overflow_mul-kept c =
    let st = c in
    kept_fits st.args.p st.requires.0

pub slice_bounds-read_exact-end : goal.slice_bounds-read_exact-end
slice_bounds-read_exact-end c =
    let st = c in
    let f = fronts st.args.p (lengths (lent st.args.metrics.now st.args.sides.now st.args.words.now st.args.tables.now st.args.bits.now st.args.uncoded.now st.args.bytes.now st.args.leads.now)) st.requires.0 st.requires.4 in
    f.metrics

pub slice_bounds-read_exact-end-2 : goal.slice_bounds-read_exact-end-2
slice_bounds-read_exact-end-2 c =
    let st = c in
    let f = fronts st.args.p (lengths (lent st.args.metrics.now st.args.sides.now st.args.words.now st.args.tables.now st.args.bits.now st.args.uncoded.now st.args.bytes.now st.args.leads.now)) st.requires.0 st.requires.4 in
    sym (length-take-le (4 * st.args.p.steps) st.args.metrics.now f.metrics)

pub slice_bounds-read_exact-end-3 : goal.slice_bounds-read_exact-end-3
slice_bounds-read_exact-end-3 c =
    let st = c in
    let f = fronts st.args.p (lengths (lent st.args.metrics.now st.args.sides.now st.args.words.now st.args.tables.now st.args.bits.now st.args.uncoded.now st.args.bytes.now st.args.leads.now)) st.requires.0 st.requires.4 in
    f.sides

pub slice_bounds-read_exact-end-4 : goal.slice_bounds-read_exact-end-4
slice_bounds-read_exact-end-4 c =
    let st = c in
    let f = fronts st.args.p (lengths (lent st.args.metrics.now st.args.sides.now st.args.words.now st.args.tables.now st.args.bits.now st.args.uncoded.now st.args.bytes.now st.args.leads.now)) st.requires.0 st.requires.4 in
    sym (length-take-le st.args.p.steps st.args.sides.now f.sides)

pub slice_bounds-read_exact-end-5 : goal.slice_bounds-read_exact-end-5
slice_bounds-read_exact-end-5 c = refl

pub slice_bounds-read_exact-end-6 : goal.slice_bounds-read_exact-end-6
slice_bounds-read_exact-end-6 c =
    let st = c in
    let f = fronts st.args.p (lengths (lent st.args.metrics.now st.args.sides.now st.args.words.now st.args.tables.now st.args.bits.now st.args.uncoded.now st.args.bytes.now st.args.leads.now)) st.requires.0 st.requires.4 in
    f.words

pub slice_bounds-read_exact-end-7 : goal.slice_bounds-read_exact-end-7
slice_bounds-read_exact-end-7 c =
    let st = c in
    let f = fronts st.args.p (lengths (lent st.args.metrics.now st.args.sides.now st.args.words.now st.args.tables.now st.args.bits.now st.args.uncoded.now st.args.bytes.now st.args.leads.now)) st.requires.0 st.requires.4 in
    sym (length-take-le st.args.p.steps st.args.words.now f.words)

pub slice_bounds-read_exact-end-8 : goal.slice_bounds-read_exact-end-8
slice_bounds-read_exact-end-8 c =
    let st = c in
    let f = fronts st.args.p (lengths (lent st.args.metrics.now st.args.sides.now st.args.words.now st.args.tables.now st.args.bits.now st.args.uncoded.now st.args.bytes.now st.args.leads.now)) st.requires.0 st.requires.4 in
    f.tables

pub slice_bounds-read_exact-end-9 : goal.slice_bounds-read_exact-end-9
slice_bounds-read_exact-end-9 c =
    let st = c in
    let f = fronts st.args.p (lengths (lent st.args.metrics.now st.args.sides.now st.args.words.now st.args.tables.now st.args.bits.now st.args.uncoded.now st.args.bytes.now st.args.leads.now)) st.requires.0 st.requires.4 in
    sym (length-take-le (64 * st.args.p.valid_slots) st.args.tables.now f.tables)

pub slice_bounds-read_exact-end-10 : goal.slice_bounds-read_exact-end-10
slice_bounds-read_exact-end-10 c =
    let st = c in
    let f = fronts st.args.p (lengths (lent st.args.metrics.now st.args.sides.now st.args.words.now st.args.tables.now st.args.bits.now st.args.uncoded.now st.args.bytes.now st.args.leads.now)) st.requires.0 st.requires.4 in
    f.bits

pub slice_bounds-read_exact-end-11 : goal.slice_bounds-read_exact-end-11
slice_bounds-read_exact-end-11 c =
    let st = c in
    let f = fronts st.args.p (lengths (lent st.args.metrics.now st.args.sides.now st.args.words.now st.args.tables.now st.args.bits.now st.args.uncoded.now st.args.bytes.now st.args.leads.now)) st.requires.0 st.requires.4 in
    sym (length-take-le st.args.p.steps st.args.bits.now f.bits)

pub slice_bounds-read_exact-end-12 : goal.slice_bounds-read_exact-end-12
slice_bounds-read_exact-end-12 c =
    let st = c in
    let f = fronts st.args.p (lengths (lent st.args.metrics.now st.args.sides.now st.args.words.now st.args.tables.now st.args.bits.now st.args.uncoded.now st.args.bytes.now st.args.leads.now)) st.requires.0 st.requires.4 in
    f.uncoded

pub slice_bounds-read_exact-end-13 : goal.slice_bounds-read_exact-end-13
slice_bounds-read_exact-end-13 c =
    let st = c in
    let f = fronts st.args.p (lengths (lent st.args.metrics.now st.args.sides.now st.args.words.now st.args.tables.now st.args.bits.now st.args.uncoded.now st.args.bytes.now st.args.leads.now)) st.requires.0 st.requires.4 in
    sym (length-take-le st.args.p.steps st.args.uncoded.now f.uncoded)

pub slice_bounds-read_exact-end-14 : goal.slice_bounds-read_exact-end-14
slice_bounds-read_exact-end-14 c =
    let st = c in
    let f = fronts st.args.p (lengths (lent st.args.metrics.now st.args.sides.now st.args.words.now st.args.tables.now st.args.bits.now st.args.uncoded.now st.args.bytes.now st.args.leads.now)) st.requires.0 st.requires.4 in
    f.bytes

pub slice_bounds-read_exact-end-15 : goal.slice_bounds-read_exact-end-15
slice_bounds-read_exact-end-15 c =
    let st = c in
    let f = fronts st.args.p (lengths (lent st.args.metrics.now st.args.sides.now st.args.words.now st.args.tables.now st.args.bits.now st.args.uncoded.now st.args.bytes.now st.args.leads.now)) st.requires.0 st.requires.4 in
    sym (length-take-le st.args.p.bytes st.args.bytes.now f.bytes)

pub slice_bounds-read_exact-end-16 : goal.slice_bounds-read_exact-end-16
slice_bounds-read_exact-end-16 c =
    let st = c in
    let f = fronts st.args.p (lengths (lent st.args.metrics.now st.args.sides.now st.args.words.now st.args.tables.now st.args.bits.now st.args.uncoded.now st.args.bytes.now st.args.leads.now)) st.requires.0 st.requires.4 in
    f.leads

pub slice_bounds-read_exact-end-17 : goal.slice_bounds-read_exact-end-17
slice_bounds-read_exact-end-17 c =
    let st = c in
    let f = fronts st.args.p (lengths (lent st.args.metrics.now st.args.sides.now st.args.words.now st.args.tables.now st.args.bits.now st.args.uncoded.now st.args.bytes.now st.args.leads.now)) st.requires.0 st.requires.4 in
    sym (length-take-le st.args.p.valid_slots st.args.leads.now f.leads)

pub read_exact-requires : goal.read_exact-requires
read_exact-requires c =
    let st = c in
    let f = fronts st.args.p (lengths (lent st.args.metrics.now st.args.sides.now st.args.words.now st.args.tables.now st.args.bits.now st.args.uncoded.now st.args.bytes.now st.args.leads.now)) st.requires.0 st.requires.4 in
    (st.requires.0, st.requires.1, st.requires.2, st.requires.3, just st.args.p (lent st.args.metrics.now st.args.sides.now st.args.words.now st.args.tables.now st.args.bits.now st.args.uncoded.now st.args.bytes.now st.args.leads.now) st.requires.0 f, marks_fit st.args.p st.requires.0)

pub returns : goal.returns
returns c =
    let at-uncoded = c in
    let at_bits = at-uncoded in
    let at-tables = at_bits in
    let at_words = at-tables in
    let at-sides = at_words in
    let at-metrics = at-sides in
    let read-exact = at-metrics in
    let st = read-exact in
    let f = fronts st.args.p (lengths (lent st.args.metrics.now st.args.sides.now st.args.words.now st.args.tables.now st.args.bits.now st.args.uncoded.now st.args.bytes.now st.args.leads.now)) st.requires.0 st.requires.4 in
    let called = read-exact.read_exact in
    left_of st.args.p (lent st.args.metrics.now st.args.sides.now st.args.words.now st.args.tables.now st.args.bits.now st.args.uncoded.now st.args.bytes.now st.args.leads.now) (lent called.new.metrics called.new.sides called.new.words called.new.tables called.new.bits called.new.uncoded called.new.bytes called.new.leads) st.requires.0 f
    (record {
      metrics = at-metrics.metrics-1.given.0;
      sides = at-sides.sides-1.given.0;
      words = at_words.words-1.given.0;
      tables = at-tables.tables-1.given.0;
      bits = at_bits.bits-1.given.0;
      uncoded = at-uncoded.uncoded-1.given.0;
      bytes = c.bytes-1.given.0;
      leads = c.leads-1.given.0;
    })
    (received_by st.args.re.now st.args.im.now st.args.o.mapping st.args.o.scales) st.args.start called.ensures

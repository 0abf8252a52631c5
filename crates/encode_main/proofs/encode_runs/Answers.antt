use lib.ListN.{length-take, length-drop}
use Rattle.std.proofs.lemmas.List.{get_or-take}
use Rattle.isdbs_plan.specs.RunsOf.{steps_in}
use Rattle.isdbs_points.specs.PlaceLaws.{before_zero, fill_last}
use Rattle.isdbs_points.specs.SizeLaws.{fill_steps}
use Rattle.encode_main.specs.RunLaws.{length_segments, run_in, run_more, runs_end, slot_steps_four}
use borrow.Author.Rules.{rules}
use mathlib.Core.Path.{◌≡◌, sym, ◌∙◌, ap}
use Prim.Native.Nat.{ℕ, ◌+◌, ◌*◌}
use native.Mathlib.Omega.{arith}
use lib.ListN.{length, get_or, take}
use Rattle.isdbs_plan.specs.RunsOf.{no_run}
use Rattle.isdbs_points.specs.Layout.{segments_from}
use Rattle.isdbs_points.specs.PlaceLaws.{before}
use Rattle.encode_run.specs.PieceLaws.{going_start}
use Rattle.encode_main.proofs.encode_runs.Goals as goal

pub loop-r-init : goal.loop-r-init
loop-r-init c =
    let segs = segments_from (take c.args.count c.args.list) 0 0 in (
      sym (before_zero (λ g. g.bits) segs),
      sym (before_zero (λ g. g.symbols) segs),
      search rules,
      rw (before_zero (λ g. g.steps) segs, before_zero (λ g. g.symbols) segs) (going_start _ c.args.start _ _ c.args.re.now c.args.im.now c.requires.3),
      search rules,
    )

pub overflow_mul-n : goal.overflow_mul-n
overflow_mul-n c =
    let h = rw c.requires.1 at c.loop-r-test.true in
    let a = run_in c.args.list c.args.count c.loop-r.r-index c.requires.1 c.requires.2 h in
    rw c.steps_per_slot.ensures (rw (get_or-take c.args.count c.args.list c.loop-r.r-index no_run h) (omega (arith, a.few_steps)))

pub offset_bounds-re-first : goal.offset_bounds-re-first
offset_bounds-re-first c =
    let h = rw c.requires.1 at c.loop-r-test.true in
    let a = run_in c.args.list c.args.count c.loop-r.r-index c.requires.1 c.requires.2 h in
    rw (get_or-take c.args.count c.args.list c.loop-r.r-index no_run h) (omega (arith, a.starts, a.symbols, a.fits))

pub slice_bounds-encode_run-count : goal.slice_bounds-encode_run-count
slice_bounds-encode_run-count c =
    let h = rw c.requires.1 at c.loop-r-test.true in
    let a = run_in c.args.list c.args.count c.loop-r.r-index c.requires.1 c.requires.2 h in
    rw (get_or-take c.args.count c.args.list c.loop-r.r-index no_run h) (omega (arith, a.starts, a.symbols, a.fits, c.requires.4, c.loop-r.invariant.3.points.re_length))

pub slice_bounds-encode_run-start : goal.slice_bounds-encode_run-start
slice_bounds-encode_run-start c =
    let h = rw c.requires.1 at c.loop-r-test.true in
    let a = run_in c.args.list c.args.count c.loop-r.r-index c.requires.1 c.requires.2 h in
    rw (get_or-take c.args.count c.args.list c.loop-r.r-index no_run h) (omega (arith, a.starts, a.symbols, a.fits, c.requires.4, c.loop-r.invariant.3.points.re_length))

pub offset_bounds-im-first : goal.offset_bounds-im-first
offset_bounds-im-first c =
    let at = c in
    let start = at in
    let h = rw start.requires.1 at c.loop-r-test.true in
    let a = run_in start.args.list start.args.count at.loop-r.r-index start.requires.1 start.requires.2 h in
    rw (get_or-take start.args.count start.args.list at.loop-r.r-index no_run h) (omega (arith, a.starts, a.symbols, a.fits))

pub slice_bounds-encode_run-count-in-loop-r : goal.slice_bounds-encode_run-count-in-loop-r
slice_bounds-encode_run-count-in-loop-r c =
    let at = c in
    let start = at in
    let h = rw start.requires.1 at c.loop-r-test.true in
    let a = run_in start.args.list start.args.count at.loop-r.r-index start.requires.1 start.requires.2 h in
    rw (get_or-take start.args.count start.args.list at.loop-r.r-index no_run h) (omega (arith, a.starts, a.symbols, a.fits, start.requires.5, at.loop-r.invariant.3.points.im_length))

pub slice_bounds-encode_run-start-in-loop-r : goal.slice_bounds-encode_run-start-in-loop-r
slice_bounds-encode_run-start-in-loop-r c =
    let at = c in
    let start = at in
    let h = rw start.requires.1 at c.loop-r-test.true in
    let a = run_in start.args.list start.args.count at.loop-r.r-index start.requires.1 start.requires.2 h in
    rw (get_or-take start.args.count start.args.list at.loop-r.r-index no_run h) (omega (arith, a.starts, a.symbols, a.fits, start.requires.5, at.loop-r.invariant.3.points.im_length))

pub encode_run-state-requires : goal.encode_run-state-requires
encode_run-state-requires c =
    let tested = c in
    let at = tested in
    let start = at in
    let h = rw start.requires.1 at tested.loop-r-test.true in
    let a = run_in start.args.list start.args.count at.loop-r.r-index start.requires.1 start.requires.2 h in
    let inv = at.loop-r.invariant in
    let z = a.size in
    rw c.steps_per_slot.ensures (rw (get_or-take start.args.count start.args.list at.loop-r.r-index no_run h) (
      omega (arith, inv.3.small, start.requires.3),
      omega (arith, a.few_steps, inv.2, inv.1, a.symbols, a.fits),
      z.periods,
      simp (length-take, length-drop) (omega (arith, z.symbols_are, a.starts, a.ends, a.symbols, a.fits, start.requires.4, inv.3.points.re_length)),
      simp (length-take, length-drop) (omega (arith, z.symbols_are, a.starts, a.ends, a.symbols, a.fits, start.requires.5, inv.3.points.im_length)),
      inv.4,
      slot_steps_four (get_or start.args.list at.loop-r.r-index no_run).combination (get_or start.args.list at.loop-r.r-index no_run).valid_slots,
    ))

pub overflow_mul-bit : goal.overflow_mul-bit
overflow_mul-bit c =
    let tested = c in
    let at = tested in
    let start = at in
    let h = rw start.requires.1 at tested.loop-r-test.true in
    let a = run_in start.args.list start.args.count at.loop-r.r-index start.requires.1 start.requires.2 h in
    rw (get_or-take start.args.count start.args.list at.loop-r.r-index no_run h) (omega (arith, a.few_bits, a.symbols, a.fits))

pub overflow_add-bit : goal.overflow_add-bit
overflow_add-bit c =
    let tested = c in
    let at = tested in
    let start = at in
    let h = rw start.requires.1 at tested.loop-r-test.true in
    let a = run_in start.args.list start.args.count at.loop-r.r-index start.requires.1 start.requires.2 h in
    rw (get_or-take start.args.count start.args.list at.loop-r.r-index no_run h) (omega (arith, a.few_bits, a.symbols, a.fits, at.loop-r.invariant.2, at.loop-r.invariant.1))

pub loop-r-preserved : goal.loop-r-preserved
loop-r-preserved c =
    let encode-run = c in
    let steps-per-slot = encode-run in
    let tested = steps-per-slot in
    let at = tested in
    let start = at in
    let h = rw start.requires.1 at tested.loop-r-test.true in
    let same = get_or-take start.args.count start.args.list at.loop-r.r-index no_run h in
    let a = run_in start.args.list start.args.count at.loop-r.r-index start.requires.1 start.requires.2 h in
    let inv = at.loop-r.invariant in
    let run = get_or start.args.list at.loop-r.r-index no_run in
    let counted = rw same at steps-per-slot.steps_per_slot.ensures in
    let encoded = rw same at encode-run.encode_run-state.ensures in
    rw same (
      omega (arith, inv.0, a.bits),
      a.ends,
      omega (arith, inv.0, inv.1, inv.2, a.few_bits, a.ends, a.symbols),
      run_more start.args.list start.args.count start.args.m start.args.bytes.now start.args.start start.requires.1 start.requires.2 at.loop-r.r-index h
          inv.3 start.requires.4 start.requires.5 at.loop-r.bit (steps-per-slot.steps_per_slot.result * run.valid_slots) encode-run.encode_run-state.result inv.0
          (ap (λ (x : ℕ). x * run.valid_slots) counted) encoded,
      omega (arith, inv.4),
    )

pub returns : goal.returns
returns c =
    let inv = c.loop-r.invariant in
    let rs = take c.args.count c.args.list in
    let segs = segments_from rs 0 0 in
    let e : c.loop-r.r-index ≡ length segs = omega (arith, c.loop-r-test.false, length_segments rs 0 0) in
    let steps : before (λ g. g.steps) segs (length segs) ≡ steps_in rs = omega (arith, fill_last (λ g. g.step) (λ g. g.steps) segs 0 (0 + steps_in rs) (fill_steps rs 0 0)) in
    runs_end rs c.args.m c.args.bytes.now c.args.start inv.3 c.loop-r.end (ap (λ (x : ℕ). before (λ g. g.steps) segs x) e ∙ steps) (ap (λ (x : ℕ). before (λ g. g.symbols) segs x) e) inv.1

-- A block adds what its symbols add; past the runs nothing is added.
use mathlib.Core.Path.{◌≡◌, refl, sym, ◌∙◌, ap}
use mathlib.Core.Bool.{Bool, true, false}
use mathlib.Core.List.{List}
use Prim.Native.Nat.{ℕ, zero, suc, ◌+◌, ◌-◌, ◌<◌, ◌≤◌}
use native.Mathlib.Nat.{add-zero, add-suc}
use native.Mathlib.Omega.{arith}
use lib.ListN.{get_or, take}
use lib.Ieee.{Float, nan}
use Rattle.trellis.specs.LaidLaws.{laid_at}
use Rattle.isdbs_combination.specs.Combinations.{modulation_of}
use Rattle.isdbs_tables.specs.declared.Table.{Table}
use Rattle.isdbs_plan.specs.declared.Plan.{Plan}
use Rattle.isdbs_plan.specs.declared.Run.{Run}
use Rattle.isdbs_plan.specs.RunsOf.{runs_of, Planned, no_run}
use Rattle.isdbs_points.specs.declared.Cplx.{Cplx}
use Rattle.isdbs_points.specs.declared.Mapping.{Mapping}
use Rattle.isdbs_points.specs.Layout.{Segment, segment_of, segments_from, among, at_symbol}
use Rattle.isdbs_points.specs.Frame.{start_state}
use Rattle.isdbs_points.specs.PlaceLaws.{among_at, among_past}
use Rattle.encode_main.specs.Encoding.{symbols_of, point_of}
use Rattle.encode_main.specs.RunLaws.{RunAt, run_in, symbols_at, steps_at, bits_at}
use Rattle.encode_main.specs.TableLaws.{table_tiled, runs_front}
use Rattle.encode_blocks.specs.declared.Place.{Place}
use Rattle.encode_blocks.specs.Blocks.{Here, BlockMade}
use Rattle.encode_blocks.specs.FrameLaws.{runs_length, runs_tiled, end_symbol, point_is}
use Rattle.margins.specs.Margins.{is_bpsk, free_re, free_im}
use Rattle.quality_sums.specs.Adding.{point_added, block_terms, block_added}
use Rattle.quality.specs.Qualities.{encoded, terms_at}
use Rattle.quality.proofs.Running.{running}

module _ (p : Plan) (planned : Planned p) where
  abbrev t : Table
  t = p.table

  abbrev rs : List Run
  rs = take p.count p.runs

  abbrev run_at : Place → Run
  run_at at = get_or p.runs at.run no_run

  -- what is said of a symbol of the run of a place
  in_run : {A : Type 0} (none : A) (f : Segment → ℕ → A) (at : Place) → at.run < p.count → (k : ℕ) → symbols_at rs at.run ≤ k → k < symbols_at rs (at.run + 1)
      → at_symbol none f t k ≡ f (segment_of (run_at at) (steps_at rs at.run) (bits_at rs at.run)) (k - (run_at at).symbol_start)
  in_run none f at lt k low high =
      let a : RunAt rs at.run (run_at at) = run_in p.runs p.count at.run (runs_length p planned) (runs_tiled p planned) lt in
      let r = run_at at in
      let g = segment_of r (steps_at rs at.run) (bits_at rs at.run) in
      let i = k - r.symbol_start in
      let e : r.symbol_start + i ≡ k = omega (arith, a.starts) in
      ap (λ (l : List Run). among (λ g. g.symbol) (λ g. g.symbols) none f (segments_from l 0 0) k) (sym (runs_front p planned))
      ∙ ap (λ (n : ℕ). among (λ g. g.symbol) (λ g. g.symbols) none f (segments_from rs 0 0) n) (sym e)
      ∙ among_at (λ g. g.symbol) (λ g. g.symbols) none f g (segments_from rs 0 0) 0 (symbols_of rs) a.member (runs_tiled p planned).fill i (omega (arith, a.starts, a.symbols))

  module _ (re im : List Float) (load : List ℕ) (m : Mapping) (first : Bool) (out : List Float) where
    abbrev go : ℕ → List Float
    go k = running re im load t m first out k

    abbrev s : ℕ
    s = start_state first

    -- a block of a run
    module _ (at r : Place) (xs₀ xs ys₀ ys : List Float) (w : BlockMade p.runs p.count m load s at r xs₀ xs ys₀ ys) (hr : Here p.runs p.count at) (lt : at.run < p.count) (on : at.symbol ≤ r.symbol) where
      abbrev n : ℕ
      n = r.symbol - at.symbol

      abbrev bpsk : Bool
      bpsk = is_bpsk (modulation_of (run_at at).combination)

      xs_at : (j : ℕ) → j < n → get_or xs j nan ≡ (encoded re im load t m first (at.symbol + j)).re
      xs_at j h =
          ap (λ (x : List Float). get_or x j nan) w.re_is ∙ laid_at nan (λ i. (point_of rs m load s (at.symbol + i)).re) n xs₀ j h
          ∙ ap (λ (z : Cplx). z.re) (point_is p planned m load s (at.symbol + j))

      ys_at : (j : ℕ) → j < n → get_or ys j nan ≡ (encoded re im load t m first (at.symbol + j)).im
      ys_at j h =
          ap (λ (x : List Float). get_or x j nan) w.im_is ∙ laid_at nan (λ i. (point_of rs m load s (at.symbol + i)).im) n ys₀ j h
          ∙ ap (λ (z : Cplx). z.im) (point_is p planned m load s (at.symbol + j))

      counted : (j : ℕ) → j < n → free_re t (at.symbol + j) ≡ false
      counted j h = in_run true (λ g i. false) at lt (at.symbol + j) (omega (arith, hr.symbol_is)) (omega (arith, w.in_run))

      part : (j : ℕ) → j < n → free_im t (at.symbol + j) ≡ bpsk
      part j h = in_run true (λ g i. is_bpsk (modulation_of g.combination)) at lt (at.symbol + j) (omega (arith, hr.symbol_is)) (omega (arith, w.in_run))

      added : (j : ℕ) → j ≤ n → block_added bpsk re im at.symbol xs ys (go at.symbol) j ≡ go (at.symbol + j)
      unfolding running block_added
      added zero h = ap go (sym (add-zero at.symbol))
      added (suc j) h =
          let k = at.symbol + j in
          let l : j < n = omega arith in
          let terms : block_terms bpsk re im at.symbol xs ys (go at.symbol) j ≡ terms_at re im load t m first k = rw (xs_at j l, ys_at j l, part j l) refl in
          ap (λ (z : List Float). point_added (block_terms bpsk re im at.symbol xs ys (go at.symbol) j) k z) (added j (omega arith))
          ∙ ap (λ (z : List Float). point_added z k (go k)) terms
          ∙ sym (ap go (add-suc at.symbol j) ∙ rw (counted j l) refl)

      pub block_added_lem : (b : Bool) (l out' : List Float) → b ≡ bpsk → l ≡ go at.symbol → out' ≡ block_added b re im at.symbol xs ys l n → out' ≡ go r.symbol
      block_added_lem b l out' q e f =
          let sum : at.symbol + n ≡ r.symbol = omega arith in
          f ∙ ap (λ (z : Bool). block_added z re im at.symbol xs ys l n) q ∙ ap (λ (z : List Float). block_added bpsk re im at.symbol xs ys z n) e ∙ added n (omega arith) ∙ ap go sum

    -- past the runs
    module _ (at : Place) (hr : Here p.runs p.count at) (end : p.count ≤ at.run) where
      uncounted : (d : ℕ) → free_re t (at.symbol + d) ≡ true
      uncounted d =
          among_past (λ g. g.symbol) (λ g. g.symbols) true (λ g j. false) (segments_from (runs_of t) 0 0) 0 (symbols_of (runs_of t)) (table_tiled t planned.accepted).fill (at.symbol + d)
          (omega (arith, end_symbol p planned at hr end))

      rest : (d : ℕ) → go (at.symbol + d) ≡ go at.symbol
      unfolding running
      rest zero = ap go (add-zero at.symbol)
      rest (suc d) = ap go (add-suc at.symbol d) ∙ rw (uncounted d) (rest d)

      pub all_added : go at.symbol ≡ go 38976
      all_added =
          let e : at.symbol + (38976 - at.symbol) ≡ 38976 = omega (arith, hr.fits) in
          sym (rest (38976 - at.symbol)) ∙ ap go e

-- The metrics of a frame run by run.
use mathlib.Core.Path.{◌≡◌, sym, ◌∙◌, ap, subst}
use mathlib.Core.List.{List}
use Prim.Native.Nat.{ℕ, ◌+◌, ◌-◌, ◌*◌, ◌/◌, ◌%◌, ◌<◌, ◌≤◌}
use native.Mathlib.Omega.{arith}
use lib.ListN.{length, get_or, take, drop}
use lib.Ieee.{Float, nan}
use borrow.Rule.Slice.PartMut.{mid_of, put_mid}
use Rattle.trellis.specs.Lists.{upto, laid}
use Rattle.isdbs_plan.specs.declared.Run.{Run}
use Rattle.isdbs_tables.specs.declared.Table.{Table}
use Rattle.isdbs_plan.specs.RunsOf.{steps_of, steps_in, frame_steps, no_run}
use Rattle.isdbs_points.specs.declared.Mapping.{Mapping}
use Rattle.isdbs_metrics.specs.Reading.{metrics_at}
use Rattle.isdbs_metrics.specs.Steps.{piece_metrics}
use Rattle.isdbs_metrics.specs.FrameRunLaws.{RunAt, Listed, run_first, run_next, run_last}
use Rattle.decode_block.specs.Blocks.{fours}
use Rattle.isdbs_metrics.specs.Scales.{scale_of, received_by}
use Rattle.decode_all.proofs.FrameSteps.{listed, metrics_are}
use Rattle.best_sides.specs.FrameSides.{frame_metrics}
use Rattle.best_sides.specs.Filled.{Filled, filled_none, filled_more}

-- the metrics of the steps before `step` are written
pub record Written (m : Mapping) (scales re im xs₀ : List Float) (count : ℕ) (list : List Run) (xs : List Float) (step i : ℕ) : Type 0 where
  pub run : RunAt count list i step
  pub fits : 4 * steps_in (take count list) ≤ length xs₀
  pub filled : Filled (fours (listed (take count list) (received_by re im m scales))) xs₀ xs (4 * step)

module _ {m : Mapping} {scales re im xs₀ : List Float} {count : ℕ} {list : List Run} where
  pub written_first : {t : Table} → Listed t count list → 4 * frame_steps t ≤ length xs₀ → Written m scales re im xs₀ count list xs₀ 0 0
  written_first l g = record { run = run_first l.runs; fits = rw l.listed g; filled = filled_none (fours (listed (take count list) (received_by re im m scales))) xs₀ }

  pub written_next : {xs p : List Float} {step i n : ℕ} → Written m scales re im xs₀ count list xs step i → i < count → n ≡ steps_of (get_or list i no_run)
      → (x : Float) → x ≡ scale_of scales (get_or list i no_run).combination
      → p ≡ laid (upto (fours (piece_metrics (get_or list i no_run).combination (take (length re - (get_or list i no_run).symbol_start) (drop (get_or list i no_run).symbol_start re)) (take (length im - (get_or list i no_run).symbol_start) (drop (get_or list i no_run).symbol_start im)) m x)) (4 * n)) (mid_of (4 * step) (length xs - 4 * step) xs)
      → Written m scales re im xs₀ count list (put_mid (4 * step) (length xs - 4 * step) xs p) (step + n) (i + 1)
  written_next {xs} {p} {step} {i} {n} w h en x ex ep =
      let a = w.run in
      let f = a.steps_fit in
      let g = w.fits in
      let r = get_or list i no_run in
      let own = piece_metrics r.combination (take (length re - r.symbol_start) (drop r.symbol_start re)) (take (length im - r.symbol_start) (drop r.symbol_start im)) m (scale_of scales r.combination) in
      let ms = listed (take count list) (received_by re im m scales) in
      let s : 4 * step + 4 * n ≡ 4 * (step + n) = omega arith in
      let same : (k : ℕ) → k < 4 * n → fours own k ≡ fours ms (4 * step + k) = λ k l.
      let q : (4 * step + k) / 4 ≡ step + k / 4 = omega arith in
      let u : (4 * step + k) % 4 ≡ k % 4 = omega arith in
      sym (ap (λ (j : ℕ). get_or (ms j) ((4 * step + k) % 4) nan) q ∙ ap (λ (j : ℕ). get_or (ms (step + k / 4)) j nan) u ∙ ap (λ (z : List Float). get_or z (k % 4) nan) (metrics_are count list a.runs i re im m scales step n (k / 4) h a.step_is en (omega arith))) in
      let more = filled_more (fours ms) xs₀ {n = 4 * n} w.filled (omega arith) (fours own) same (rw ex at ep) in
      record { run = run_next a h en; fits = g; filled = subst (λ (j : ℕ). Filled (fours ms) xs₀ (put_mid (4 * step) (length xs - 4 * step) xs p) j) s more }

  pub written_last : {t : Table} {xs : List Float} {step i : ℕ} → Listed t count list → Written m scales re im xs₀ count list xs step i → count ≤ i
      → xs ≡ laid (frame_metrics t (received_by re im m scales)) xs₀
  unfolding metrics_at frame_metrics
  written_last l w h = let e = run_last l w.run h in rw (e, l.listed) at w.filled.are

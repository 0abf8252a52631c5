-- The sides of a frame run by run.
use mathlib.Core.Path.{◌≡◌, sym}
use mathlib.Core.List.{List}
use Prim.Native.Nat.{ℕ, ◌+◌, ◌-◌, ◌<◌, ◌≤◌}
use native.Mathlib.Omega.{arith}
use lib.ListN.{length, get_or, take, drop}
use lib.Ieee.{Float, nan}
use borrow.Rule.Slice.PartMut.{mid_of, put_mid}
use Rattle.trellis.specs.Lists.{upto, laid}
use Rattle.isdbs_combination.specs.declared.Combination.{Combination}
use Rattle.isdbs_plan.specs.declared.Run.{Run}
use Rattle.isdbs_tables.specs.declared.Table.{Table}
use Rattle.isdbs_plan.specs.RunsOf.{steps_of, steps_in, frame_steps, no_run}
use Rattle.isdbs_points.specs.declared.Mapping.{Mapping}
use Rattle.isdbs_metrics.specs.FrameRunLaws.{RunAt, Listed, run_first, run_next, run_last}
use Rattle.decode_bytes.specs.Bytes.{received_with}
use Rattle.best_sides.specs.FrameSides.{side_at, frame_sides}
use Rattle.best_sides.specs.Filled.{Filled, filled_none, filled_more}
use Rattle.best_sides.specs.RunSides.{side_as, listed_sides, sides_are}

-- the sides of the steps before `step` are written, whatever the scales
pub record Written (m : Mapping) (re im : List Float) (xs₀ : List ℕ) (count : ℕ) (list : List Run) (xs : List ℕ) (step i : ℕ) : Type 0 where
  pub run : RunAt count list i step
  pub fits : steps_in (take count list) ≤ length xs₀
  pub filled : (scales : Combination → Float) → Filled (listed_sides (take count list) (received_with re im m scales)) xs₀ xs step

module _ {m : Mapping} {re im : List Float} {xs₀ : List ℕ} {count : ℕ} {list : List Run} where
  pub same : {xs : List ℕ} {step i : ℕ} → Written m re im xs₀ count list xs step i → length xs ≡ length xs₀
  same w = (w.filled (λ c. nan)).same

  pub written_first : {t : Table} → Listed t count list → frame_steps t ≤ length xs₀ → Written m re im xs₀ count list xs₀ 0 0
  written_first l g = record { run = run_first l.runs; fits = rw l.listed g; filled = λ scales. filled_none (listed_sides (take count list) (received_with re im m scales)) xs₀ }

  pub written_next : {xs p : List ℕ} {step i n : ℕ} → Written m re im xs₀ count list xs step i → i < count → n ≡ steps_of (get_or list i no_run)
      → p ≡ laid (upto (side_as (get_or list i no_run).combination (take (length re - (get_or list i no_run).symbol_start) (drop (get_or list i no_run).symbol_start re)) (take (length im - (get_or list i no_run).symbol_start) (drop (get_or list i no_run).symbol_start im)) m) n) (mid_of step (length xs - step) xs)
      → Written m re im xs₀ count list (put_mid step (length xs - step) xs p) (step + n) (i + 1)
  written_next {xs} {p} {step} {i} {n} w h en ep =
      let a = w.run in
      let f = a.steps_fit in
      let g = w.fits in
      let r = get_or list i no_run in
      let own = side_as r.combination (take (length re - r.symbol_start) (drop r.symbol_start re)) (take (length im - r.symbol_start) (drop r.symbol_start im)) m in
      record {
        run = run_next a h en;
        fits = g;
        filled = λ scales.
            filled_more (listed_sides (take count list) (received_with re im m scales)) xs₀ (w.filled scales) (omega arith) own
            (λ k l. sym (sides_are count list a.runs i re im m scales step n k h a.step_is en l)) ep;
      }

  pub written_last : {t : Table} {xs : List ℕ} {step i : ℕ} → Listed t count list → Written m re im xs₀ count list xs step i → count ≤ i
      → (scales : Combination → Float) → xs ≡ laid (frame_sides t (received_with re im m scales)) xs₀
  unfolding frame_sides side_at
  written_last l w h scales = let e = run_last l w.run h in rw (e, l.listed) at (w.filled scales).are

-- The marks of a frame run by run.
use mathlib.Core.Path.{◌≡◌, refl, sym, ◌∙◌, ap}
use mathlib.Core.List.{List, ◌++◌}
use Prim.Native.Nat.{ℕ, ◌+◌, ◌-◌, ◌<◌, ◌≤◌}
use native.Mathlib.Omega.{arith}
use lib.ListN.{length, get_or, take, drop, length-drop}
use lib.Ieee.{Float}
use borrow.Rule.Slice.PartMut.{mid_of, put_mid}
use Rattle.trellis.specs.Lists.{upto, laid}
use Rattle.isdbs_plan.specs.declared.Run.{Run}
use Rattle.isdbs_tables.specs.declared.Table.{Table}
use Rattle.isdbs_plan.specs.RunsOf.{steps_of, steps_in, frame_steps, no_run}
use Rattle.isdbs_points.specs.declared.Mapping.{Mapping}
use Rattle.trellis.specs.LaidLaws.{laid_part, length_laid_upto}
use Rattle.isdbs_metrics.specs.Reading.{Received, metrics_at}
use Rattle.decode_bytes.specs.FrameByteLaws.{written_tail}
use Rattle.isdbs_metrics.specs.FrameRunLaws.{RunAt, Listed, tail_is, run_last}
use Rattle.strain_marks.specs.Marks.{mark_of, frame_mark}
use Rattle.decode_block.specs.Blocks.{run_mark}
use Rattle.isdbs_metrics.specs.Scales.{scale_of, received_by}
use Rattle.decode_all.proofs.FrameSteps.{listed, metrics_are}

-- the marks of a list of runs
abbrev list_mark : List Run → Received → ℕ → ℕ
list_mark rs r k = mark_of (listed rs r k)

-- the marks of the steps before `step` are written
pub record Marked (m : Mapping) (scales re im : List Float) (marks₀ : List ℕ) (count : ℕ) (list : List Run) (marks : List ℕ) (step : ℕ) : Type 0 where
  pub fits : steps_in (take count list) ≤ length marks₀
  pub same : length marks ≡ length marks₀
  pub are : marks ≡ laid (upto (list_mark (take count list) (received_by re im m scales)) step) marks₀

module _ {m : Mapping} {scales re im : List Float} {marks₀ : List ℕ} {count : ℕ} {list : List Run} where
  pub marked_first : {t : Table} → Listed t count list → frame_steps t ≤ length marks₀ → Marked m scales re im marks₀ count list marks₀ 0
  unfolding upto
  marked_first l g = record { fits = rw l.listed g; same = refl; are = refl }

  -- the marks have room for run i
  pub marked_room : {marks : List ℕ} {step i n : ℕ} → RunAt count list i step → Marked m scales re im marks₀ count list marks step → n ≡ steps_of (get_or list i no_run)
      → n ≤ length (take (length marks - step) (drop step marks))
  marked_room {marks} {step} a w en =
      let f = a.steps_fit in
      let g = w.fits in
      let e = w.same in
      let d = length-drop step marks in
      rw (tail_is step marks) (omega arith)

  pub marked_start : {marks : List ℕ} {step i : ℕ} → RunAt count list i step → Marked m scales re im marks₀ count list marks step → step ≤ length marks
  marked_start a w =
      let f = a.steps_fit in
      let g = w.fits in
      let e = w.same in
      omega arith

  pub marked_next : {marks p : List ℕ} {step i n : ℕ} → RunAt count list i step → Marked m scales re im marks₀ count list marks step → i < count → n ≡ steps_of (get_or list i no_run)
      → (x : Float) → x ≡ scale_of scales (get_or list i no_run).combination
      → p ≡ laid (upto (run_mark (get_or list i no_run).combination (take (length re - (get_or list i no_run).symbol_start) (drop (get_or list i no_run).symbol_start re)) (take (length im - (get_or list i no_run).symbol_start) (drop (get_or list i no_run).symbol_start im)) m x) n) (mid_of step (length marks - step) marks)
      → Marked m scales re im marks₀ count list (put_mid step (length marks - step) marks p) (step + n)
  marked_next {marks} {p} {step} {i} {n} a w h en x ex ep =
      let f = a.steps_fit in
      let g = w.fits in
      let e = w.same in
      let r = get_or list i no_run in
      let all = list_mark (take count list) (received_by re im m scales) in
      let own = run_mark r.combination (take (length re - r.symbol_start) (drop r.symbol_start re)) (take (length im - r.symbol_start) (drop r.symbol_start im)) m (scale_of scales r.combination) in
      let now : put_mid step (length marks - step) marks p ≡ laid (upto all (step + n)) marks₀ =
      written_tail step marks p (upto own n) (omega arith) (rw ex at ep)
      ∙ ap (λ (z : List ℕ). take step z ++ laid (upto own n) (drop step z)) w.are
      ∙ laid_part all own step n marks₀ (λ k l. sym (ap mark_of (metrics_are count list a.runs i re im m scales step n k h a.step_is en l))) in
      record { fits = g; same = ap length now ∙ length_laid_upto all (step + n) marks₀ (omega arith); are = now }

  pub marked_last : {t : Table} {marks : List ℕ} {step i : ℕ} → Listed t count list → RunAt count list i step → count ≤ i → Marked m scales re im marks₀ count list marks step
      → marks ≡ laid (upto (frame_mark t (received_by re im m scales)) (frame_steps t)) marks₀
  unfolding metrics_at
  marked_last l a h w = let e = run_last l a h in rw (e, l.listed) at w.are

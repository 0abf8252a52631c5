-- The decoded steps of a frame run by run.
use mathlib.Core.Path.{◌≡◌, refl, sym, ◌∙◌, ap}
use mathlib.Core.List.{List, []}
use Prim.Native.Nat.{ℕ, ◌+◌, ◌-◌, ◌*◌, ◌<◌, ◌≤◌, ◌^◌}
use native.Mathlib.Omega.{arith}
use lib.ListN.{length, get_or, take, drop}
use lib.Ieee.{Float}
use Rattle.trellis.specs.Step.{Step, four}
use Rattle.trellis.specs.Run.{after, fresh_from}
use Rattle.viterbi_core.specs.declared.At.{At}
use Rattle.viterbi_core.specs.Calls.{steps, Holds}
use Rattle.viterbi_core.specs.HoldingLaws.{holds_start}
use Rattle.isdbs_combination.specs.declared.Combination.{Combination}
use Rattle.isdbs_combination.specs.declared.Combination.TheVariants.{Bpsk1_2, Qpsk1_2, Qpsk2_3, Qpsk3_4, Qpsk5_6, Qpsk7_8, Tc8psk2_3}
use Rattle.isdbs_combination.specs.Combinations.{puncture_of, period_steps}
use Rattle.isdbs_plan.specs.declared.Run.{Run}
use Rattle.isdbs_plan.specs.RunLaws.{Whole}
use Rattle.isdbs_tables.specs.declared.Table.{Table}
use Rattle.isdbs_plan.specs.RunsOf.{steps_of, steps_in, frame_steps, no_run}
use Rattle.isdbs_points.specs.declared.Mapping.{Mapping}
use Rattle.isdbs_points.specs.Layout.{segments_from, among}
use Rattle.isdbs_metrics.specs.Reading.{Received, metrics_in, metrics_at}
use Rattle.isdbs_metrics.specs.Steps.{piece_metrics}
use Rattle.decode_block.specs.Blocks.{run_steps, Periods}
use Rattle.decode_run.specs.Carried.{Carried}
use Rattle.decode_all.specs.Steps.{RunsRead}
use Rattle.isdbs_metrics.specs.Scales.{scale_of, received_by}
use Rattle.isdbs_points.specs.AmongLaws.{steps_to, valid_to, among_step}
use Rattle.decode_bytes.specs.PartLaws.{metrics_part}
use Rattle.isdbs_metrics.specs.FrameRunLaws.{RunList, RunAt, Listed, tail_is, run_first, run_next, run_last}

-- the metrics of a list of runs, as steps
abbrev pub listed : List Run → Received → ℕ → List Float
listed rs r k = among (λ g. g.step) (λ g. g.steps) [] (metrics_in r) (segments_from rs 0 0) k

abbrev list_metrics : List Run → Received → ℕ → Step
list_metrics rs r k = four (listed rs r k)

-- those of run i are the frame's from its first step on
run_metrics : (rs : List Run) (re im : List Float) (m : Mapping) (scales : List Float) (i k step : ℕ) → i < length rs → step ≡ steps_to rs i → k < steps_of (get_or rs i no_run)
    → listed rs (received_by re im m scales) (step + k)
    ≡ piece_metrics (get_or rs i no_run).combination (drop (get_or rs i no_run).symbol_start re) (drop (get_or rs i no_run).symbol_start im) m (scale_of scales (get_or rs i no_run).combination) k
run_metrics rs re im m scales i k step h e l =
    let r = get_or rs i no_run in
    among_step [] (metrics_in (received_by re im m scales)) rs 0 0 i k (step + k) h l (omega arith)
    ∙ sym (metrics_part re im m (scale_of scales) r (0 + steps_to rs i) (0 + 1624 * valid_to rs i) k)

module _ (count : ℕ) (list : List Run) (l : RunList count list) (i : ℕ) where
  abbrev run : Run
  run = get_or list i no_run

  abbrev rs : List Run
  rs = take count list

  -- and so for a run of the plan
  pub metrics_are : (re im : List Float) (m : Mapping) (scales : List Float) (step n k : ℕ) → i < count → step ≡ steps_to rs i → n ≡ steps_of run → k < n
      → listed rs (received_by re im m scales) (step + k)
      ≡ piece_metrics run.combination (take (length re - run.symbol_start) (drop run.symbol_start re)) (take (length im - run.symbol_start) (drop run.symbol_start im)) m (scale_of scales run.combination) k
  metrics_are re im m scales step n k h e en g =
      let c = l.counted in
      rw (tail_is run.symbol_start re, tail_is run.symbol_start im, l.at i)
      (run_metrics rs re im m scales i k step (omega arith) e (let q = rw (l.at i) at en in omega arith))

-- a run is whole periods
periods_by : (c : Combination) (steps periods : ℕ) → steps ≡ periods * period_steps (puncture_of c) → Periods c steps
periods_by Bpsk1_2 steps periods e = omega arith
periods_by Qpsk1_2 steps periods e = omega arith
periods_by Qpsk2_3 steps periods e = omega arith
periods_by Qpsk3_4 steps periods e = omega arith
periods_by Qpsk5_6 steps periods e = omega arith
periods_by Qpsk7_8 steps periods e = omega arith
periods_by Tc8psk2_3 steps periods e = omega arith

pub run_periods : (r : Run) (n : ℕ) → Whole r → n ≡ steps_of r → Periods r.combination n
run_periods r n w e = periods_by r.combination n w.periods (e ∙ w.steps)

-- the place of a scale
pub place_small : {x : ℕ} → x < 7 → x * 4 < 2 ^ 64
place_small h = omega arith

-- the first i runs are read, and run i has room
pub record Read (m : Mapping) (scales pm₀ re im : List Float) (dec₀ out₀ : List ℕ) (count : ℕ) (list : List Run) (pm : List Float) (dec out : List ℕ) (at : At) (step i : ℕ) : Type 0 where
  pub run : RunAt count list i step
  pub re_fits : 38976 ≤ length re
  pub im_fits : 38976 ≤ length im
  pub words_fit : 4224 ≤ length dec
  pub bits_fit : steps_in (take count list) ≤ length out
  pub same_words : length dec ≡ length dec₀
  pub same_bits : length out ≡ length out₀
  pub few : at.held < 4224
  pub sum : at.held + at.count ≡ step
  pub holds : Holds 128 dec₀ out₀ (steps 128 (list_metrics (take count list) (received_by re im m scales)) (fresh_from pm₀) step) pm at.held at.count dec out

module _ {m : Mapping} {scales pm₀ re im : List Float} {dec₀ out₀ : List ℕ} {count : ℕ} {list : List Run} where
  pub read_first : {t : Table} → Listed t count list → 38976 ≤ length re → 38976 ≤ length im → 4224 ≤ length dec₀ → frame_steps t ≤ length out₀ → Read m scales pm₀ re im dec₀ out₀ count list pm₀ dec₀ out₀ (record { held = 0; count = 0 }) 0 0
  unfolding after
  read_first l gr gi gd gb =
      record {
        run = run_first l.runs;
        re_fits = gr;
        im_fits = gi;
        words_fit = gd;
        bits_fit = rw l.listed gb;
        same_words = refl;
        same_bits = refl;
        few = omega arith;
        sum = refl;
        holds = holds_start 128 pm₀ 0 dec₀ out₀ (omega arith);
      }

  -- the bits have room for run i, and the frame's steps are few
  pub read_room : {pm : List Float} {dec out : List ℕ} {at : At} {step i n : ℕ} → Read m scales pm₀ re im dec₀ out₀ count list pm dec out at step i → n ≡ steps_of (get_or list i no_run)
      → (at.held + at.count + n ≤ length out) × (step + n < 2 ^ 30)
  read_room r en =
      let f = r.run.steps_fit in
      let gb = r.bits_fit in
      let sum = r.sum in
      let most = r.run.runs.steps in
      (omega arith, omega arith)

  pub read_next : {pm pm' : List Float} {dec dec' out out' : List ℕ} {at at' : At} {step i n : ℕ} → Read m scales pm₀ re im dec₀ out₀ count list pm dec out at step i → i < count → n ≡ steps_of (get_or list i no_run)
      → length dec' ≡ length dec → length out' ≡ length out
      → (x : Float) → x ≡ scale_of scales (get_or list i no_run).combination
      → Carried (run_steps (get_or list i no_run).combination (take (length re - (get_or list i no_run).symbol_start) (drop (get_or list i no_run).symbol_start re)) (take (length im - (get_or list i no_run).symbol_start) (drop (get_or list i no_run).symbol_start im)) m x) step n pm at dec out at' pm' dec' out'
      → Read m scales pm₀ re im dec₀ out₀ count list pm' dec' out' at' (step + n) (i + 1)
  read_next {step = step} {i = i} {n = n} r h en ld lo x ex y =
      let z = rw ex at y in
      let gd = r.words_fit in
      let gb = r.bits_fit in
      let sum = r.sum in
      let more = z.sum in
      record {
        run = run_next r.run h en;
        re_fits = r.re_fits;
        im_fits = r.im_fits;
        words_fit = omega arith;
        bits_fit = omega arith;
        same_words = ld ∙ r.same_words;
        same_bits = lo ∙ r.same_bits;
        few = z.few;
        sum = omega arith;
        holds = z.carries (list_metrics (take count list) (received_by re im m scales)) (fresh_from pm₀) dec₀ out₀ (λ k g. ap four (metrics_are count list r.run.runs i re im m scales step n k h r.run.step_is en g)) r.holds;
      }

  pub read_last : {t : Table} {pm : List Float} {dec out : List ℕ} {at : At} {step i : ℕ} → Listed t count list → Read m scales pm₀ re im dec₀ out₀ count list pm dec out at step i → count ≤ i
      → RunsRead t (received_by re im m scales) pm₀ dec₀ out₀ at pm dec out
  unfolding metrics_at
  read_last {t} {step = step} {i = i} l r h =
      let e = run_last l r.run h in
      record { few = r.few; sum = r.sum ∙ e; holds = rw (e, l.listed) at r.holds }

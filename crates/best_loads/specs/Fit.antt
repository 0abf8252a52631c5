-- How well a full load fits a received frame, which loads differ in a valid slot, and what the best reading of a frame is. No algorithm is named here.
use Rattle.std.specs.Prelude.{◌≡◌, cond, List, ℕ, zero, suc, ◌+◌, ◌*◌, ◌≤◌, ◌<◌, eqb, ℤ, pos, neg_ℤ, ◌+ℤ◌, ◌≤ℤ◌, get_or}
use Rattle.std.specs.Float.{nan}
use Rattle.trellis.specs.Isdb
use Rattle.path_greatest.specs.Paths.{First}
use Rattle.isdbs_combination.specs.declared.Modulation.{Modulation}
use Rattle.isdbs_combination.specs.declared.Modulation.TheVariants.{Bpsk, Qpsk, Tc8psk}
use Rattle.isdbs_combination.specs.Combinations.{modulation_of}
use Rattle.isdbs_tables.specs.declared.Table.{Table}
use Rattle.isdbs_frame.specs.Frame.{slot_bytes}
use Rattle.isdbs_plan.specs.RunsOf.{frame_steps, load_bytes, valid_total}
use Rattle.isdbs_points.specs.Layout.{Segment, segments, In, at_step, load_bit, FullLoad}
use Rattle.isdbs_points.specs.Frame.{inputs, label_at}
use Rattle.isdbs_metrics.specs.Reading.{Received, metrics_by}
use Rattle.best_sides.specs.FrameSides.{better_in}
use Rattle.best_grid.specs.Grid.{grid}

-- What step k of a segment adds where the coded pair l is sent there: the metric of l on the grid. TC8PSK's metric is that of the better C2, "1 exactly when (v × conj p).re is below 0"; where the
-- other one is sent it counts negative. (c2 is read in TC8PSK only.)
unfoldable pub step_fit : Modulation → Received → Segment → ℕ → ℕ → ℕ → ℤ
step_fit Bpsk r g k c2 l = grid (get_or (metrics_by Bpsk r g k) l nan)
step_fit Qpsk r g k c2 l = grid (get_or (metrics_by Qpsk r g k) l nan)
step_fit Tc8psk r g k c2 l = cond (eqb c2 (better_in r g k l)) (grid (get_or (metrics_by Tc8psk r g k) l nan)) (neg_ℤ (grid (get_or (metrics_by Tc8psk r g k) l nan)))

-- of a load: "TC8PSK takes C2 uncoded, then one coded bit"
abbrev pub fit_in : Received → List ℕ → (ℕ → ℕ) → Segment → ℕ → ℤ
fit_in r load pair g k = step_fit (modulation_of g.combination) r g k (load_bit load (g.bit + 2 * k)) (pair (g.step + k))

-- at step k of the frame, encoded from the state s
unfoldable pub fit_at : Table → Received → List ℕ → ℕ → ℕ → ℤ
fit_at t r load s = at_step (pos 0) (fit_in r load (label_at s (inputs t load))) t

-- the sum of the first k steps; of all
unfoldable pub fit_to : Table → Received → List ℕ → ℕ → ℕ → ℤ
fit_to t r load s zero = pos 0
fit_to t r load s (suc k) = fit_to t r load s k +ℤ fit_at t r load s k

-- THE FIT of a load that is encoded from the state s. With an unknown start the start is part of what is read: the fit of a load is then the greatest over the 64 starts (`Fits` of OnlyLaws); what is said
-- below of every load from every start in `from` is said of that greatest.
abbrev pub fit : Table → Received → List ℕ → ℕ → ℤ
fit t r load s = fit_to t r load s (frame_steps t)

-- two loads differ in valid slot k: in one of its 203 bytes
pub record DifferIn (k : ℕ) (a b : List ℕ) : Type 0 where
  pub byte : ℕ
  pub from : slot_bytes * k ≤ byte
  pub under : byte < slot_bytes * (k + 1)
  pub unlike : get_or a byte 0 ≡ get_or b byte 0 → ⊥

-- a full load with a start in `from`: what a frame may hold
pub record Sent (t : Table) (from : ℕ → Type 0) (s : ℕ) (load : List ℕ) : Type 0 where
  pub full : FullLoad load (load_bytes t)
  pub state : s < Isdb.states
  pub begins : from s

-- The load from s leads by d in valid slot k: every full load that differs from it there, from any start in `from`, fits worse by d at least (`over`), and one by d exactly (`exactly`). So d is 0 exactly
-- where another content of the slot fits as well.
pub record LeadsIn (t : Table) (r : Received) (from : ℕ → Type 0) (s : ℕ) (load : List ℕ) (k d : ℕ) : Type 0 where
  pub over : (q : ℕ) (other : List ℕ) → Sent t from q other → DifferIn k load other → (fit t r other q +ℤ pos d) ≤ℤ fit t r load s
  pub start : ℕ
  pub rival : List ℕ
  pub sent : Sent t from start rival
  pub differ : DifferIn k load rival
  pub exactly : fit t r rival start +ℤ pos d ≡ fit t r load s

-- THE BEST READING: a full load that no full load fits better than (`best`); "of equals the first path by P2 and P12" (`first`), "and of two C2 that fit alike document 01's (1 exactly when the
-- correlation is below 0)" (`uncoded`); and its lead in each valid slot (`leads`). Laws of it: `best-only`, `leads-only` (there is no other) in OnlyLaws
pub record BestReading (t : Table) (r : Received) (from : ℕ → Type 0) (load ls : List ℕ) : Type 0 where
  pub s : ℕ
  pub sent : Sent t from s load
  pub best : (q : ℕ) (other : List ℕ) → Sent t from q other → fit t r other q ≤ℤ fit t r load s
  pub first : (q : ℕ) (other : List ℕ) → Sent t from q other → fit t r other q ≡ fit t r load s → First Isdb.half Isdb.rule s (inputs t load) q (inputs t other) (frame_steps t)
  pub uncoded : (g : Segment) → In g (segments t) → modulation_of g.combination ≡ Tc8psk → (k : ℕ) → k < g.steps → load_bit load (g.bit + 2 * k) ≡ better_in r g k (label_at s (inputs t load) (g.step + k))
  pub leads : (k : ℕ) → k < valid_total t → LeadsIn t r from s load k (get_or ls k 0)

-- What `best_reading` needs of the lent memory, and what it leaves there. Definitions only.
use Rattle.std.specs.Prelude.{◌≡◌, List, ℕ, ◌*◌, ◌≤◌, take, drop}
use Rattle.trellis.specs.Isdb
use Rattle.path_greatest.specs.Fresh.{StartsIn}
use Rattle.path_greatest.specs.declared.Start.{Start}
use Rattle.isdbs_tables.specs.declared.Table.{Table}
use Rattle.isdbs_plan.specs.RunsOf.{frame_steps, load_bytes, valid_total}
use Rattle.isdbs_points.specs.Frame.{inputs}
use Rattle.isdbs_metrics.specs.Reading.{Received}
use Rattle.best_loads.specs.Fit.{BestReading}
use Rattle.best_loads.specs.Held.{uncoded_bits}
use Rattle.best_frame.specs.declared.Lengths.{Lengths}
use Rattle.best_frame.specs.Lent.{Lent}

-- room for the call: 4 f32 a step, a byte a step, a word a step, 64 words a valid slot, a bit and an uncoded bit a step, 203 bytes a valid slot, a lead a valid slot
pub record Room (t : Table) (l : Lengths) : Type 0 where
  pub metrics_fit : 4 * frame_steps t ≤ l.metrics
  pub sides_fit : frame_steps t ≤ l.sides
  pub words_fit : frame_steps t ≤ l.words
  pub tables_fit : Isdb.states * valid_total t ≤ l.tables
  pub bits_fit : frame_steps t ≤ l.bits
  pub uncoded_fit : frame_steps t ≤ l.uncoded
  pub bytes_fit : load_bytes t ≤ l.bytes
  pub leads_fit : valid_total t ≤ l.leads

-- just as much
pub record Just (t : Table) (l : Lengths) : Type 0 where
  pub metrics_are : l.metrics ≡ 4 * frame_steps t
  pub sides_are : l.sides ≡ frame_steps t
  pub words_are : l.words ≡ frame_steps t
  pub tables_are : l.tables ≡ Isdb.states * valid_total t
  pub bits_are : l.bits ≡ frame_steps t
  pub uncoded_are : l.uncoded ≡ frame_steps t
  pub bytes_are : l.bytes ≡ load_bytes t
  pub leads_are : l.leads ≡ valid_total t

-- the bytes are the best reading, the bits its inputs, the uncoded bits its C2 (0 where a step has none), the leads its leads
pub record Reads (t : Table) (r : Received) (start : Start) (bits uncoded load leads : List ℕ) : Type 0 where
  pub best : BestReading t r (StartsIn Isdb.states start) load leads
  pub bits_are : bits ≡ inputs t load
  pub uncoded_are : uncoded ≡ uncoded_bits t load

-- accepted: the reading at the fronts of bits, uncoded bits, bytes and leads; the used fronts of metrics, sides, words and tables are free; past each front all is as before
pub record Left (t : Table) (r : Received) (start : Start) (before after : Lent) : Type 0 where
  pub reads : Reads t r start (take (frame_steps t) after.bits) (take (frame_steps t) after.uncoded) (take (load_bytes t) after.bytes) (take (valid_total t) after.leads)
  pub metrics_past : drop (4 * frame_steps t) after.metrics ≡ drop (4 * frame_steps t) before.metrics
  pub sides_past : drop (frame_steps t) after.sides ≡ drop (frame_steps t) before.sides
  pub words_past : drop (frame_steps t) after.words ≡ drop (frame_steps t) before.words
  pub tables_past : drop (Isdb.states * valid_total t) after.tables ≡ drop (Isdb.states * valid_total t) before.tables
  pub bits_past : drop (frame_steps t) after.bits ≡ drop (frame_steps t) before.bits
  pub uncoded_past : drop (frame_steps t) after.uncoded ≡ drop (frame_steps t) before.uncoded
  pub bytes_past : drop (load_bytes t) after.bytes ≡ drop (load_bytes t) before.bytes
  pub leads_past : drop (valid_total t) after.leads ≡ drop (valid_total t) before.leads

-- Document 01, "Runs and points": the runs of a table.
use Rattle.std.specs.Prelude.{◌≡◌, cond, List, [], ◌∷◌, ◌++◌, ℕ, ◌+◌, ◌*◌, ◌/◌, ◌≤◌, length, Option, Some, None, Result}
use Rattle.refusal.specs.declared.Refusal.{Refusal}
use Rattle.refusal.specs.Rows.{answered}
use Rattle.isdbs_combination.specs.declared.Combination.{Combination}
use Rattle.isdbs_combination.specs.declared.Combination.TheVariants.{Bpsk1_2}
use Rattle.isdbs_tables.specs.declared.Entry.{Entry}
use Rattle.isdbs_tables.specs.declared.Table.{Table}
use Rattle.isdbs_plan.specs.declared.Run.{Run}
use Rattle.isdbs_plan.specs.declared.FrameRuns.{FrameRuns}
use Rattle.isdbs_plan.specs.declared.Plan.{Plan}
use Rattle.trellis.specs.Lists.{padded}
use Rattle.isdbs_frame.specs.Frame.{main_symbols, slot_bytes}
use Rattle.isdbs_combination.specs.Combinations.{unit_of, slot_steps, frame_slots, slot_symbols}
use Rattle.isdbs_tables.specs.Tables.{entry_combination, table_answer, TableAccepted}

-- "An entry of n slots has n / unit whole units"
abbrev pub units_in : Combination → ℕ → ℕ
units_in c n = n / (unit_of c).slots

-- "of unit × 812 symbols": 812 for each slot, since an accepted entry is whole units
abbrev pub symbols_in : ℕ → ℕ
symbols_in n = n * slot_symbols

-- the run of an entry of n slots that starts at a slot and a main-signal symbol
abbrev pub run_of : Combination → ℕ → ℕ → ℕ → Run
run_of c n slot symbol =
    record {
      combination = c;
      slot_start = slot;
      slot_end = slot + n;
      valid_slots = units_in c n * (unit_of c).valid;
      symbol_start = symbol;
      symbol_end = symbol + symbols_in n;
    }

-- one run for each entry with a combination
abbrev pub entry_runs : Option Combination → ℕ → ℕ → ℕ → List Run
entry_runs (Some c) n slot symbol = run_of c n slot symbol ∷ []
entry_runs None n slot symbol = []

abbrev pub entry_symbols : Option Combination → ℕ → ℕ
entry_symbols (Some c) n = symbols_in n
entry_symbols None n = 0

-- the entries' runs one after the other; "A word with no combination takes its slots but no symbols"
unfoldable pub runs_from : List Entry → ℕ → ℕ → List Run
runs_from [] slot symbol = []
runs_from (e ∷ es) slot symbol =
    entry_runs (entry_combination e) e.slots slot symbol
    ++ runs_from es (slot + e.slots) (symbol + entry_symbols (entry_combination e) e.slots)

abbrev pub runs_of : Table → List Run
runs_of t = runs_from t.entries 0 0

-- "valid slots are those that `runs` counts, numbered from 0 through all runs"
unfoldable pub valid_in : List Run → ℕ
valid_in [] = 0
valid_in (r ∷ rs) = r.valid_slots + valid_in rs

abbrev pub valid_total : Table → ℕ
valid_total t = valid_in (runs_of t)

-- "a full load is 203 bytes for each"
abbrev pub load_bytes : Table → ℕ
load_bytes t = slot_bytes * valid_total t

-- the trellis steps of a run, and of a frame
abbrev pub steps_of : Run → ℕ
steps_of r = slot_steps r.combination * r.valid_slots

unfoldable pub steps_in : List Run → ℕ
steps_in [] = 0
steps_in (r ∷ rs) = steps_of r + steps_in rs

abbrev pub frame_steps : Table → ℕ
frame_steps t = steps_in (runs_of t)

-- "the Vec of runs is four records and a count": past the count stands the empty run
abbrev pub no_run : Run
no_run = run_of Bpsk1_2 0 0 0

-- runs as `runs` answers them
abbrev pub four_of : List Run → FrameRuns
four_of rs = record { count = length rs; runs = padded 4 no_run rs; valid_slots = valid_in rs }

-- the answer of `runs`
abbrev pub four_runs : Table → Result FrameRuns Refusal
four_runs t = answered (table_answer t) (four_of (runs_of t))

-- the plan of a table, as `plan_of` answers it
abbrev pub plan_of : Table → Plan
plan_of t =
    record {
      table = t;
      count = length (runs_of t);
      runs = padded 4 no_run (runs_of t);
      valid_slots = valid_total t;
      steps = frame_steps t;
      bytes = load_bytes t;
    }

-- the plan of an accepted table
pub record Planned (p : Plan) : Type 0 where
  pub is : p ≡ plan_of p.table
  pub few : p.count ≤ 4
  pub accepted : TableAccepted p.table

-- a run lies within the frame
pub record RunFits (r : Run) : Type 0 where
  pub slots : r.slot_end ≤ frame_slots
  pub starts : r.symbol_start ≤ r.symbol_end
  pub ends : r.symbol_end ≤ main_symbols

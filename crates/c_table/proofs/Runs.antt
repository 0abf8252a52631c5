-- The numbers of the runs of an accepted table.
use mathlib.Core.Path.{◌≡◌, refl, sym, ◌∙◌, ap}
use mathlib.Core.Bool.{true}
use mathlib.Core.List.{List, [], ◌∷◌, ◌++◌}
use Prim.Native.Nat.{ℕ, zero, suc, ◌+◌, ◌*◌, ◌≤◌, ◌<◌}
use native.Mathlib.Omega.{arith}
use lib.ListN.{length, get_or}
use Rattle.isdbs_combination.specs.declared.Combination.{Combination}
use Rattle.isdbs_combination.specs.declared.Combination.TheVariants.{Bpsk1_2, Qpsk1_2, Qpsk2_3, Qpsk3_4, Qpsk5_6, Qpsk7_8, Tc8psk2_3}
use Rattle.std.specs.Prelude.{Option, Some, None}
use Rattle.isdbs_tables.specs.declared.Entry.{Entry}
use Rattle.isdbs_plan.specs.declared.Run.{Run}
use Rattle.trellis.specs.Lists.{Each}
use Rattle.isdbs_combination.specs.Combinations.{word_of}
use Rattle.isdbs_tables.specs.Tables.{slot_sum, entry_combination}
use Rattle.isdbs_plan.specs.RunsOf.{run_of, runs_from, entry_runs, entry_symbols}
use Rattle.isdbs_plan.specs.RunLaws.{entry_fits}
use Rattle.c_table.specs.Forms.{run_numbers}

-- each number of the run is at most 38,976
pub record Small (r : Run) : Type 0 where
  pub word : word_of r.combination ≤ 38976
  pub slot_start : r.slot_start ≤ 38976
  pub slot_end : r.slot_end ≤ 38976
  pub valid : r.valid_slots ≤ 38976
  pub symbol_start : r.symbol_start ≤ 38976
  pub symbol_end : r.symbol_end ≤ 38976

pub small_number : (r : Run) → Small r → (i : ℕ) → get_or (run_numbers r) i 0 ≤ 38976
small_number r h zero = h.word
small_number r h (suc zero) = h.slot_start
small_number r h (suc (suc zero)) = h.slot_end
small_number r h (suc (suc (suc zero))) = h.valid
small_number r h (suc (suc (suc (suc zero)))) = h.symbol_start
small_number r h (suc (suc (suc (suc (suc zero))))) = h.symbol_end
small_number r h (suc (suc (suc (suc (suc (suc i)))))) = omega arith

word_small : (c : Combination) → word_of c ≤ 38976
word_small Bpsk1_2 = omega arith
word_small Qpsk1_2 = omega arith
word_small Qpsk2_3 = omega arith
word_small Qpsk3_4 = omega arith
word_small Qpsk5_6 = omega arith
word_small Qpsk7_8 = omega arith
word_small Tc8psk2_3 = omega arith

run_small : (c : Combination) (n slot symbol : ℕ) → slot + n ≤ 48 → symbol ≤ slot * 812 → Small (run_of c n slot symbol)
run_small c n slot symbol h s =
    let f = entry_fits c n in
    record {
      word = word_small c;
      slot_start = omega arith;
      slot_end = omega arith;
      valid = omega arith;
      symbol_start = omega arith;
      symbol_end = omega arith;
    }

each_entry : (m : Option Combination) (n slot symbol : ℕ) (rs : List Run) → ((c : Combination) → Small (run_of c n slot symbol)) → Each Small rs → Each Small (entry_runs m n slot symbol ++ rs)
each_entry (Some c) n slot symbol rs p h = (p c, h)
each_entry None n slot symbol rs p h = h

entry_symbols_lem : (m : Option Combination) (n : ℕ) → entry_symbols m n ≤ n * 812
entry_symbols_lem (Some c) n = omega arith
entry_symbols_lem None n = omega arith

pub runs_small : (es : List Entry) (slot symbol : ℕ) → slot + slot_sum es ≤ 48 → symbol ≤ slot * 812 → Each Small (runs_from es slot symbol)
unfolding runs_from slot_sum
runs_small [] slot symbol h s = tt
runs_small (e ∷ es) slot symbol h s =
    let f = entry_symbols_lem (entry_combination e) e.slots in
    each_entry (entry_combination e) e.slots slot symbol
    (runs_from es (slot + e.slots) (symbol + entry_symbols (entry_combination e) e.slots))
    (λ c. run_small c e.slots slot symbol (omega arith) s)
    (runs_small es (slot + e.slots) (symbol + entry_symbols (entry_combination e) e.slots) (omega arith) (omega arith))

entry_count : (m : Option Combination) (n slot symbol : ℕ) (rs : List Run) (k : ℕ) → length rs ≤ k → length (entry_runs m n slot symbol ++ rs) ≤ suc k
entry_count (Some c) n slot symbol rs k h = omega arith
entry_count None n slot symbol rs k h = omega arith

-- at most a run for each entry
pub runs_count : (es : List Entry) (slot symbol : ℕ) → length (runs_from es slot symbol) ≤ length es
unfolding runs_from
runs_count [] slot symbol = omega arith
runs_count (e ∷ es) slot symbol =
    entry_count (entry_combination e) e.slots slot symbol
    (runs_from es (slot + e.slots) (symbol + entry_symbols (entry_combination e) e.slots))
    (length es)
    (runs_count es (slot + e.slots) (symbol + entry_symbols (entry_combination e) e.slots))

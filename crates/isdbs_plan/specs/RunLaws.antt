-- Laws of runs: they lie end to end within the frame, and their symbols, valid slots, steps and periods agree.
use Rattle.std.specs.Prelude.{◌≡◌, refl, false, List, [], ◌∷◌, ◌++◌, ℕ, zero, suc, ◌+◌, ◌-◌, ◌*◌, ◌/◌, ◌%◌, ◌≤◌, ◌<◌, eqb, length, get_or, replicate, Option, Some, None}
use Rattle.std.proofs.Common.{arith, not-suc-le-zero, le_of_suc-le-suc, eqb-true}
use Rattle.std.proofs.lemmas.Bool.{not-false}
use Rattle.isdbs_combination.specs.declared.Combination.{Combination}
use Rattle.isdbs_combination.specs.declared.Combination.TheVariants.{Bpsk1_2, Qpsk1_2, Qpsk2_3, Qpsk3_4, Qpsk5_6, Qpsk7_8, Tc8psk2_3}
use Rattle.isdbs_tables.specs.declared.Entry.{Entry}
use Rattle.isdbs_tables.specs.declared.Table.{Table}
use Rattle.isdbs_plan.specs.declared.Run.{Run}
use Rattle.trellis.specs.Lists.{Each, padded}
use Rattle.isdbs_combination.specs.Combinations.{unit_of, slot_steps, puncture_of, modulation_of, period_steps, period_symbols, step_bits, frame_slots, slot_bits, slot_symbols}
use Rattle.isdbs_tables.specs.Tables.{entry_combination, slot_sum, unfilled, part_unit}
use Rattle.isdbs_tables.proofs.TableLaws.{WholeUnits}
use Rattle.isdbs_plan.specs.RunsOf.{units_in, symbols_in, run_of, entry_runs, entry_symbols, runs_from, runs_of, valid_in, valid_total, steps_of, steps_in, frame_steps, RunFits}
use Rattle.trellis.specs.Isdb.{longest_frame}

-- ---- a run by itself

-- what an entry of n slots carries is bounded by its slots
pub record EntryFits (c : Combination) (n : ℕ) : Type 0 where
  pub valid : units_in c n * (unit_of c).valid ≤ n
  pub steps : slot_steps c * (units_in c n * (unit_of c).valid) ≤ n * 1421

pub entry_fits : (c : Combination) (n : ℕ) → EntryFits c n
entry_fits Bpsk1_2 n = record { valid = omega arith; steps = omega arith }
entry_fits Qpsk1_2 n = record { valid = omega arith; steps = omega arith }
entry_fits Qpsk2_3 n = record { valid = omega arith; steps = omega arith }
entry_fits Qpsk3_4 n = record { valid = omega arith; steps = omega arith }
entry_fits Qpsk5_6 n = record { valid = omega arith; steps = omega arith }
entry_fits Qpsk7_8 n = record { valid = omega arith; steps = omega arith }
entry_fits Tc8psk2_3 n = record { valid = omega arith; steps = omega arith }

-- the periods of a unit of a combination
abbrev pub unit_periods : Combination → ℕ
unit_periods Bpsk1_2 = 1624
unit_periods Qpsk1_2 = 1624
unit_periods Qpsk2_3 = 812
unit_periods Qpsk3_4 = 1624
unit_periods Qpsk5_6 = 1624
unit_periods Qpsk7_8 = 1624
unit_periods Tc8psk2_3 = 812

-- a run is whole units: its slots, symbols, valid slots, steps and periods agree, and its valid slots' bits are those of its steps
pub record Whole (r : Run) : Type 0 where
  pub units : ℕ
  pub slots : r.slot_end ≡ r.slot_start + units * (unit_of r.combination).slots
  pub valid : r.valid_slots ≡ units * (unit_of r.combination).valid
  pub symbols : r.symbol_end ≡ r.symbol_start + units * ((unit_of r.combination).slots * slot_symbols)
  pub periods : ℕ
  pub counted : periods ≡ units * unit_periods r.combination
  pub steps : steps_of r ≡ periods * period_steps (puncture_of r.combination)
  pub sent : r.symbol_end ≡ r.symbol_start + periods * period_symbols (puncture_of r.combination) (modulation_of r.combination)
  pub bits : r.valid_slots * slot_bits ≡ steps_of r * step_bits (modulation_of r.combination)

pub run_whole : (c : Combination) (n slot symbol : ℕ) → n % (unit_of c).slots ≡ 0 → Whole (run_of c n slot symbol)
run_whole Bpsk1_2 n slot symbol h = record { units = n / 4; slots = omega arith; valid = refl; symbols = omega arith; periods = n / 4 * 1624; counted = refl; steps = omega arith; sent = omega arith; bits = omega arith }
run_whole Qpsk1_2 n slot symbol h = record { units = n / 2; slots = omega arith; valid = refl; symbols = omega arith; periods = n / 2 * 1624; counted = refl; steps = omega arith; sent = omega arith; bits = omega arith }
run_whole Qpsk2_3 n slot symbol h = record { units = n / 3; slots = omega arith; valid = refl; symbols = omega arith; periods = n / 3 * 812; counted = refl; steps = omega arith; sent = omega arith; bits = omega arith }
run_whole Qpsk3_4 n slot symbol h = record { units = n / 4; slots = omega arith; valid = refl; symbols = omega arith; periods = n / 4 * 1624; counted = refl; steps = omega arith; sent = omega arith; bits = omega arith }
run_whole Qpsk5_6 n slot symbol h = record { units = n / 6; slots = omega arith; valid = refl; symbols = omega arith; periods = n / 6 * 1624; counted = refl; steps = omega arith; sent = omega arith; bits = omega arith }
run_whole Qpsk7_8 n slot symbol h = record { units = n / 8; slots = omega arith; valid = refl; symbols = omega arith; periods = n / 8 * 1624; counted = refl; steps = omega arith; sent = omega arith; bits = omega arith }
run_whole Tc8psk2_3 n slot symbol h = record { units = n / 1; slots = omega arith; valid = refl; symbols = omega arith; periods = n / 1 * 812; counted = refl; steps = omega arith; sent = omega arith; bits = omega arith }

-- ---- the runs of entries

-- runs lie end to end from symbol s
abbrev pub EndToEnd : ℕ → List Run → Type 0
EndToEnd s [] = Unit
EndToEnd s (r ∷ rs) = (r.symbol_start ≡ s) × EndToEnd r.symbol_end rs

-- runs take slots in order, from slot s on
abbrev pub InOrder : ℕ → List Run → Type 0
InOrder s [] = Unit
InOrder s (r ∷ rs) = (s ≤ r.slot_start) × (r.slot_start ≤ r.slot_end) × InOrder r.slot_end rs

entry_end_to_end : (m : Option Combination) (n slot symbol : ℕ) (rs : List Run) → EndToEnd (symbol + entry_symbols m n) rs → EndToEnd symbol (entry_runs m n slot symbol ++ rs)
entry_end_to_end (Some c) n slot symbol rs h = (refl, h)
entry_end_to_end None n slot symbol rs h = let e : symbol + 0 ≡ symbol = omega arith in rw e at h

pub end_to_end : (es : List Entry) (slot symbol : ℕ) → EndToEnd symbol (runs_from es slot symbol)
unfolding runs_from
end_to_end [] slot symbol = tt
end_to_end (e ∷ es) slot symbol =
    entry_end_to_end (entry_combination e) e.slots slot symbol
    (runs_from es (slot + e.slots) (symbol + entry_symbols (entry_combination e) e.slots))
    (end_to_end es (slot + e.slots) (symbol + entry_symbols (entry_combination e) e.slots))

later : (s z : ℕ) (rs : List Run) → s ≤ z → InOrder z rs → InOrder s rs
later s z [] h o = tt
later s z (r ∷ rs) h o = (omega (arith, o.0), o.1, o.2)

order_entry : (m : Option Combination) (n slot symbol : ℕ) (rs : List Run) → InOrder (slot + n) rs → InOrder slot (entry_runs m n slot symbol ++ rs)
order_entry (Some c) n slot symbol rs h = (omega arith, omega arith, h)
order_entry None n slot symbol rs h = later slot (slot + n) rs (omega arith) h

pub in_order : (es : List Entry) (slot symbol : ℕ) → InOrder slot (runs_from es slot symbol)
unfolding runs_from
in_order [] slot symbol = tt
in_order (e ∷ es) slot symbol =
    order_entry (entry_combination e) e.slots slot symbol
    (runs_from es (slot + e.slots) (symbol + entry_symbols (entry_combination e) e.slots))
    (in_order es (slot + e.slots) (symbol + entry_symbols (entry_combination e) e.slots))

module _ (P : Run → Type 0) where
  each_entry : (m : Option Combination) (n slot symbol : ℕ) (rs : List Run) → ((c : Combination) → P (run_of c n slot symbol)) → Each P rs → Each P (entry_runs m n slot symbol ++ rs)
  each_entry (Some c) n slot symbol rs p h = (p c, h)
  each_entry None n slot symbol rs p h = h

pub no_part : (c : Combination) (n : ℕ) → unfilled (Some c) n ≡ false → n % (unit_of c).slots ≡ 0
no_part c n p = eqb-true (n % (unit_of c).slots) 0 (not-false (eqb (n % (unit_of c).slots) 0) p)

-- an entry of a combination that row 10 passes: its slots are those of its units
pub entry_units : (c : Combination) (n : ℕ) → unfilled (Some c) n ≡ false → n * slot_symbols ≡ units_in c n * ((unit_of c).slots * slot_symbols)
entry_units Bpsk1_2 n p = let w = no_part Bpsk1_2 n p in omega arith
entry_units Qpsk1_2 n p = let w = no_part Qpsk1_2 n p in omega arith
entry_units Qpsk2_3 n p = let w = no_part Qpsk2_3 n p in omega arith
entry_units Qpsk3_4 n p = let w = no_part Qpsk3_4 n p in omega arith
entry_units Qpsk5_6 n p = let w = no_part Qpsk5_6 n p in omega arith
entry_units Qpsk7_8 n p = let w = no_part Qpsk7_8 n p in omega arith
entry_units Tc8psk2_3 n p = let w = no_part Tc8psk2_3 n p in omega arith

whole_entry : (m : Option Combination) (n slot symbol : ℕ) (rs : List Run) → unfilled m n ≡ false → Each Whole rs → Each Whole (entry_runs m n slot symbol ++ rs)
whole_entry (Some c) n slot symbol rs w h = (run_whole c n slot symbol (no_part c n w), h)
whole_entry None n slot symbol rs w h = h

pub runs_whole : (es : List Entry) (slot symbol : ℕ) → WholeUnits es → Each Whole (runs_from es slot symbol)
unfolding runs_from
runs_whole [] slot symbol w = tt
runs_whole (e ∷ es) slot symbol w =
    whole_entry (entry_combination e) e.slots slot symbol
    (runs_from es (slot + e.slots) (symbol + entry_symbols (entry_combination e) e.slots))
    w.0
    (runs_whole es (slot + e.slots) (symbol + entry_symbols (entry_combination e) e.slots) w.1)

run_fits : (c : Combination) (n slot symbol : ℕ) → slot + n ≤ frame_slots → symbol ≤ slot * slot_symbols → RunFits (run_of c n slot symbol)
run_fits c n slot symbol h s = record { slots = h; starts = omega arith; ends = omega arith }

entry_symbols_lem : (m : Option Combination) (n : ℕ) → entry_symbols m n ≤ n * slot_symbols
entry_symbols_lem (Some c) n = omega arith
entry_symbols_lem None n = omega arith

pub runs_fit : (es : List Entry) (slot symbol : ℕ) → slot + slot_sum es ≤ frame_slots → symbol ≤ slot * slot_symbols → Each RunFits (runs_from es slot symbol)
unfolding runs_from slot_sum
runs_fit [] slot symbol h s = tt
runs_fit (e ∷ es) slot symbol h s =
    let f = entry_symbols_lem (entry_combination e) e.slots in
    each_entry RunFits (entry_combination e) e.slots slot symbol
    (runs_from es (slot + e.slots) (symbol + entry_symbols (entry_combination e) e.slots))
    (λ c. run_fits c e.slots slot symbol (omega arith) s)
    (runs_fit es (slot + e.slots) (symbol + entry_symbols (entry_combination e) e.slots) (omega arith) (omega arith))

-- ---- sums over runs

pub valid_append : (rs : List Run) (r : Run) → valid_in (rs ++ (r ∷ [])) ≡ valid_in rs + r.valid_slots
unfolding valid_in
valid_append [] r = omega arith
valid_append (x ∷ rs) r = let e = valid_append rs r in omega arith

valid_entry : (m : Option Combination) (n slot symbol : ℕ) (rs : List Run) (k : ℕ) → valid_in rs ≤ k → valid_in (entry_runs m n slot symbol ++ rs) ≤ n + k
unfolding valid_in
valid_entry (Some c) n slot symbol rs k h = let f = entry_fits c n in omega arith
valid_entry None n slot symbol rs k h = omega arith

pub valid_most : (es : List Entry) (slot symbol : ℕ) → valid_in (runs_from es slot symbol) ≤ slot_sum es
unfolding runs_from slot_sum valid_in
valid_most [] slot symbol = omega arith
valid_most (e ∷ es) slot symbol =
    valid_entry (entry_combination e) e.slots slot symbol
    (runs_from es (slot + e.slots) (symbol + entry_symbols (entry_combination e) e.slots))
    (slot_sum es)
    (valid_most es (slot + e.slots) (symbol + entry_symbols (entry_combination e) e.slots))

pub steps_append : (rs : List Run) (r : Run) → steps_in (rs ++ (r ∷ [])) ≡ steps_in rs + steps_of r
unfolding steps_in
steps_append [] r = omega arith
steps_append (x ∷ rs) r = let e = steps_append rs r in omega arith

steps_entry : (m : Option Combination) (n slot symbol : ℕ) (rs : List Run) (k : ℕ) → steps_in rs ≤ k * 1421 → steps_in (entry_runs m n slot symbol ++ rs) ≤ (n + k) * 1421
unfolding steps_in
steps_entry (Some c) n slot symbol rs k h = let f = entry_fits c n in omega arith
steps_entry None n slot symbol rs k h = omega arith

pub steps_most : (es : List Entry) (slot symbol : ℕ) → steps_in (runs_from es slot symbol) ≤ slot_sum es * 1421
unfolding runs_from slot_sum steps_in
steps_most [] slot symbol = omega arith
steps_most (e ∷ es) slot symbol =
    steps_entry (entry_combination e) e.slots slot symbol
    (runs_from es (slot + e.slots) (symbol + entry_symbols (entry_combination e) e.slots))
    (slot_sum es)
    (steps_most es (slot + e.slots) (symbol + entry_symbols (entry_combination e) e.slots))

-- ---- a table that is accepted

-- its runs lie end to end from symbol 0, in slot order, each whole units and within the 48 slots and 38,976 symbols; the valid slots are at most 48 and
-- the steps at most 68,208
pub record Laid (t : Table) : Type 0 where
  pub ends : EndToEnd 0 (runs_of t)
  pub order : InOrder 0 (runs_of t)
  pub whole : Each Whole (runs_of t)
  pub fit : Each RunFits (runs_of t)
  pub valid : valid_total t ≤ frame_slots
  pub steps : frame_steps t ≤ longest_frame

pub laid : (t : Table) → slot_sum t.entries ≤ frame_slots → WholeUnits t.entries → Laid t
laid t h w =
    let v = valid_most t.entries 0 0 in
    let s = steps_most t.entries 0 0 in
    record {
      ends = end_to_end t.entries 0 0;
      order = in_order t.entries 0 0;
      whole = runs_whole t.entries 0 0 w;
      fit = runs_fit t.entries 0 0 (omega arith) (omega arith);
      valid = omega arith;
      steps = omega arith;
    }

-- ---- runs by their index

module _ (P : Run → Type 0) where
  pub each_at : (rs : List Run) (d : Run) (i : ℕ) → Each P rs → i < length rs → P (get_or rs i d)
  each_at [] d i h l = absurd (not-suc-le-zero l)
  each_at (r ∷ rs) d zero h l = h.0
  each_at (r ∷ rs) d (suc i) h l = each_at rs d i h.1 (le_of_suc-le-suc l)

  each_filler : (d : Run) (n : ℕ) → P d → Each P (replicate n d)
  each_filler d zero p = tt
  each_filler d (suc n) p = (p, each_filler d n p)

  each_append : (rs ss : List Run) → Each P rs → Each P ss → Each P (rs ++ ss)
  each_append [] ss h k = k
  each_append (r ∷ rs) ss h k = (h.0, each_append rs ss h.1 k)

  pub each_padded : (n : ℕ) (d : Run) (rs : List Run) → P d → Each P rs → Each P (padded n d rs)
  each_padded n d rs p h = each_append rs (replicate (n - length rs) d) h (each_filler d (n - length rs) p)

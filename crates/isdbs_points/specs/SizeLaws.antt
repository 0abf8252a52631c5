-- The segments of a table lie end to end in symbols, in steps and in bits; of an accepted one each has whole units, its symbols fit the frame and its steps
-- are at most 68,208.
use Rattle.std.specs.Prelude.{◌≡◌, refl, false, List, [], ◌∷◌, ◌++◌, ℕ, ◌+◌, ◌-◌, ◌*◌, ◌%◌, ◌<◌, ◌≤◌, Option, Some, None}
use Rattle.std.proofs.Common.{add_assoc, add-zero, zero-add, arith}
use Rattle.isdbs_combination.specs.declared.Combination.{Combination}
use Rattle.isdbs_combination.specs.declared.Combination.TheVariants.{Bpsk1_2, Qpsk1_2, Qpsk2_3, Qpsk3_4, Qpsk5_6, Qpsk7_8, Tc8psk2_3}
use Rattle.isdbs_tables.specs.declared.Entry.{Entry}
use Rattle.isdbs_tables.specs.declared.Table.{Table}
use Rattle.isdbs_plan.specs.declared.Run.{Run}
use Rattle.isdbs_frame.specs.Frame.{main_symbols}
use Rattle.isdbs_combination.specs.Combinations.{unit_of, slot_steps, slot_bits, slot_symbols}
use Rattle.isdbs_tables.specs.Tables.{slot_sum, entry_combination, unfilled, TableAccepted}
use Rattle.isdbs_tables.proofs.TableLaws.{sum_fits, units_whole}
use Rattle.isdbs_tables.proofs.TableLaws.{WholeUnits}
use Rattle.isdbs_plan.specs.RunLaws.{entry_units}
use Rattle.isdbs_plan.specs.RunsOf.{units_in, symbols_in, run_of, entry_runs, entry_symbols, runs_from, runs_of, valid_in, valid_total, load_bytes, steps_of, steps_in, frame_steps}
use Rattle.isdbs_points.specs.Layout.{Segment, segment_of, segments_from, segments, at_symbol, at_step, at_bit, In, here, there}
use Rattle.isdbs_points.specs.PlaceLaws.{Fill, Found, fill_member, among_at, find}
use Rattle.trellis.specs.Isdb.{longest_frame}

-- ---- steps and bits
pub fill_steps : (rs : List Run) (s b : ℕ) → Fill (λ g. g.step) (λ g. g.steps) (segments_from rs s b) s (s + steps_in rs)
unfolding Fill segments_from steps_in
fill_steps [] s b = omega arith
fill_steps (r ∷ rs) s b = (refl, rw (← add_assoc s (steps_of r) (steps_in rs)) (fill_steps rs (s + steps_of r) (b + slot_bits * r.valid_slots)))

pub fill_bits : (rs : List Run) (s b : ℕ) → Fill (λ g. g.bit) (λ g. g.bits) (segments_from rs s b) b (b + slot_bits * valid_in rs)
unfolding Fill segments_from valid_in
fill_bits [] s b = omega arith
fill_bits (r ∷ rs) s b =
    let e : b + slot_bits * (r.valid_slots + valid_in rs) ≡ b + slot_bits * r.valid_slots + slot_bits * valid_in rs = omega arith in
    (refl, rw e (fill_bits rs (s + steps_of r) (b + slot_bits * r.valid_slots)))

-- ---- symbols
unfoldable pub symbol_sum : List Entry → ℕ
symbol_sum [] = 0
symbol_sum (e ∷ es) = entry_symbols (entry_combination e) e.slots + symbol_sum es

abbrev FillSymbols : List Segment → ℕ → ℕ → Type 0
FillSymbols = Fill (λ g. g.symbol) (λ g. g.symbols)

entry_symbols_lem : (c : Option Combination) (n slot symbol end : ℕ) (rs : List Run) (s b : ℕ) → ((s b : ℕ) → FillSymbols (segments_from rs s b) (symbol + entry_symbols c n) end)
    → FillSymbols (segments_from (entry_runs c n slot symbol ++ rs) s b) symbol end
unfolding Fill segments_from
entry_symbols_lem (Some c) n slot symbol end rs s b h =
    let r = run_of c n slot symbol in
    let e : symbol + (symbol + symbols_in n - symbol) ≡ symbol + symbols_in n = omega arith in
    (refl, rw e (h (s + steps_of r) (b + slot_bits * r.valid_slots)))
entry_symbols_lem None n slot symbol end rs s b h = rw (add-zero symbol) at (h s b)

pub fill_symbols : (es : List Entry) (slot symbol s b : ℕ) → FillSymbols (segments_from (runs_from es slot symbol) s b) symbol (symbol + symbol_sum es)
unfolding Fill segments_from runs_from symbol_sum
fill_symbols [] slot symbol s b = omega arith
fill_symbols (e ∷ es) slot symbol s b =
    let k = entry_symbols (entry_combination e) e.slots in
    entry_symbols_lem (entry_combination e) e.slots slot symbol (symbol + (k + symbol_sum es)) (runs_from es (slot + e.slots) (symbol + k)) s b
    (λ s b. rw (← add_assoc symbol k (symbol_sum es)) (fill_symbols es (slot + e.slots) (symbol + k) s b))

-- ---- how much an entry of n slots takes
-- at most 7 valid slots of 8, and 1,624 steps for each
steps_few : (c : Combination) (n : ℕ) → slot_steps c * (units_in c n * (unit_of c).valid) ≤ 1421 * n
steps_few Bpsk1_2 n = omega arith
steps_few Qpsk1_2 n = omega arith
steps_few Qpsk2_3 n = omega arith
steps_few Qpsk3_4 n = omega arith
steps_few Qpsk5_6 n = omega arith
steps_few Qpsk7_8 n = omega arith
steps_few Tc8psk2_3 n = omega arith

entry_symbols_few : (c : Option Combination) (n : ℕ) → entry_symbols c n ≤ slot_symbols * n
entry_symbols_few (Some c) n = omega arith
entry_symbols_few None n = omega arith

pub symbol_sum_few : (es : List Entry) → symbol_sum es ≤ slot_symbols * slot_sum es
unfolding symbol_sum slot_sum
symbol_sum_few [] = omega arith
symbol_sum_few (e ∷ es) = omega (arith, entry_symbols_few (entry_combination e) e.slots, symbol_sum_few es)

entry_steps_few : (c : Option Combination) (n slot symbol : ℕ) (rs : List Run) → steps_in (entry_runs c n slot symbol ++ rs) ≤ 1421 * n + steps_in rs
unfolding steps_in
entry_steps_few (Some c) n slot symbol rs = let h = steps_few c n in omega arith
entry_steps_few None n slot symbol rs = omega arith

step_sum_few : (es : List Entry) (slot symbol : ℕ) → steps_in (runs_from es slot symbol) ≤ 1421 * slot_sum es
unfolding runs_from slot_sum steps_in
step_sum_few [] slot symbol = omega arith
step_sum_few (e ∷ es) slot symbol =
    let k = entry_symbols (entry_combination e) e.slots in
    omega (arith, entry_steps_few (entry_combination e) e.slots slot symbol (runs_from es (slot + e.slots) (symbol + k)), step_sum_few es (slot + e.slots) (symbol + k))

-- ---- each segment of an accepted table has whole units
pub record Whole (g : Segment) : Type 0 where
  pub units : ℕ
  pub symbols_are : g.symbols ≡ units * ((unit_of g.combination).slots * slot_symbols)
  pub steps_are : g.steps ≡ slot_steps g.combination * (units * (unit_of g.combination).valid)
  pub bits_are : g.bits ≡ slot_bits * (units * (unit_of g.combination).valid)

of_cons : (P : Segment → Type 0) {g h : Segment} {gs : List Segment} → P h → (In g gs → P g) → In g (h ∷ gs) → P g
of_cons P p q here = p
of_cons P p q (there m) = q m

entry_whole : (c : Option Combination) (n slot symbol : ℕ) (rs : List Run) (s b : ℕ) (g : Segment) → unfilled c n ≡ false → ((s b : ℕ) → In g (segments_from rs s b) → Whole g)
    → In g (segments_from (entry_runs c n slot symbol ++ rs) s b) → Whole g
unfolding segments_from
entry_whole (Some c) n slot symbol rs s b g p h m =
    let r = run_of c n slot symbol in
    let w = entry_units c n p in
    let whole : Whole (segment_of r s b) = record { units = units_in c n; symbols_are = omega arith; steps_are = refl; bits_are = refl } in
    of_cons Whole whole (h (s + steps_of r) (b + slot_bits * r.valid_slots)) m
entry_whole None n slot symbol rs s b g p h m = h s b m

from_whole : (es : List Entry) (slot symbol s b : ℕ) (g : Segment) → WholeUnits es → In g (segments_from (runs_from es slot symbol) s b) → Whole g
unfolding segments_from runs_from
from_whole [] slot symbol s b g w m = elim m [ ]
from_whole (e ∷ es) slot symbol s b g w m =
    let k = entry_symbols (entry_combination e) e.slots in
    entry_whole (entry_combination e) e.slots slot symbol (runs_from es (slot + e.slots) (symbol + k)) s b g w.0 (λ s b. from_whole es (slot + e.slots) (symbol + k) s b g w.1) m

-- ---- a table
module _ (t : Table) where
  table_steps : Fill (λ g. g.step) (λ g. g.steps) (segments t) 0 (frame_steps t)
  table_steps = rw (zero-add (frame_steps t)) at (fill_steps (runs_of t) 0 0)

  table_bits : Fill (λ g. g.bit) (λ g. g.bits) (segments t) 0 (8 * load_bytes t)
  table_bits = let e : 8 * load_bytes t ≡ 0 + slot_bits * valid_total t = omega arith in rw e (fill_bits (runs_of t) 0 0)

  table_symbols : FillSymbols (segments t) 0 (symbol_sum t.entries)
  table_symbols = rw (zero-add (symbol_sum t.entries)) at (fill_symbols t.entries 0 0 0 0)

  pub table_whole : TableAccepted t → (g : Segment) → In g (segments t) → Whole g
  table_whole a g = from_whole t.entries 0 0 0 0 g (units_whole t a)

  -- an accepted table has 68,208 steps at most, and its symbols lie in the frame
  pub few_steps : TableAccepted t → frame_steps t ≤ longest_frame
  few_steps a = omega (arith, sum_fits t a, step_sum_few t.entries 0 0)

  pub symbol_fits : TableAccepted t → (g : Segment) → In g (segments t) → (j : ℕ) → j < g.symbols → g.symbol + j < main_symbols
  symbol_fits a g m j l =
      omega (arith, sum_fits t a, symbol_sum_few t.entries, (fill_member (λ g. g.symbol) (λ g. g.symbols) g (segments t) 0 (symbol_sum t.entries) m table_symbols).1)

  pub step_fits : (g : Segment) → In g (segments t) → (k : ℕ) → k < g.steps → g.step + k < frame_steps t
  step_fits g m k l = omega (arith, (fill_member (λ g. g.step) (λ g. g.steps) g (segments t) 0 (frame_steps t) m table_steps).1)

  -- what stands at a symbol, a step or a bit of a segment
  module _ {A : Type 0} (none : A) (f : Segment → ℕ → A) (g : Segment) (m : In g (segments t)) (k : ℕ) where
    pub at_symbol_lem : k < g.symbols → at_symbol none f t (g.symbol + k) ≡ f g k
    at_symbol_lem l = among_at (λ g. g.symbol) (λ g. g.symbols) none f g (segments t) 0 (symbol_sum t.entries) m table_symbols k l

    pub at_step_lem : k < g.steps → at_step none f t (g.step + k) ≡ f g k
    at_step_lem l = among_at (λ g. g.step) (λ g. g.steps) none f g (segments t) 0 (frame_steps t) m table_steps k l

    pub at_bit_lem : k < g.bits → at_bit none f t (g.bit + k) ≡ f g k
    at_bit_lem l = among_at (λ g. g.bit) (λ g. g.bits) none f g (segments t) 0 (8 * load_bytes t) m table_bits k l

  -- each step and each bit of the load is one of a segment
  pub find_step : (k : ℕ) → k < frame_steps t → Found (λ g. g.step) (λ g. g.steps) (segments t) k
  find_step k l = find (λ g. g.step) (λ g. g.steps) (segments t) 0 (frame_steps t) k table_steps (omega arith) l

  pub find_bit : (n : ℕ) → n < 8 * load_bytes t → Found (λ g. g.bit) (λ g. g.bits) (segments t) n
  find_bit n l = find (λ g. g.bit) (λ g. g.bits) (segments t) 0 (8 * load_bytes t) n table_bits (omega arith) l

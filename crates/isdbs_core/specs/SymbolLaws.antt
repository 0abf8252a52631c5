-- Laws of bits and bytes in a run.
use Rattle.std.specs.Prelude.{◌≡◌, refl, Bool, true, false, cond, List, [], ◌∷◌, ◌++◌, ℕ, zero, suc, ◌+◌, ◌-◌, ◌*◌, ◌/◌, ◌%◌, ◌≤◌, ◌<◌, ltb, length, get_or, drop, replicate, Option, None, Ok, Err}
use Rattle.std.proofs.Common.{◌∙◌, arith, add-one, lit<, ltb-true, ltb-false, drop_of_length-le, drop-cons}
use Rattle.std.proofs.Math.Dec.{leb-zero, leb-suc-zero}
use Rattle.refusal.specs.Rows.{Answer, answered, number_of, accepted, Said}
use Rattle.refusal.proofs.RowLaws.{err_refuses, is_refused}
use Rattle.isdbs_combination.specs.declared.Combination.{Combination}
use Rattle.isdbs_combination.specs.declared.Combination.TheVariants.{Bpsk1_2, Qpsk1_2, Qpsk2_3, Qpsk3_4, Qpsk5_6, Qpsk7_8, Tc8psk2_3}
use Rattle.isdbs_combination.specs.declared.Puncture.{Puncture}
use Rattle.isdbs_combination.specs.declared.Puncture.TheVariants.{R2_3, R3_4, R5_6, R7_8}
use Rattle.isdbs_combination.specs.declared.BitPair.{BitPair}
use Rattle.isdbs_plan.specs.declared.Run.{Run}
use Rattle.trellis.specs.Lists.{padded}
use Rattle.isdbs_combination.specs.Combinations.{pairs_of, period_of, unit_of, slot_bits, slot_symbols}
use Rattle.isdbs_tables.specs.declared.Table.{Table}
use Rattle.isdbs_tables.specs.Tables.{table_answer}
use Rattle.isdbs_marks.specs.Marks.{marked}
use Rattle.isdbs_plan.specs.RunsOf.{no_run, runs_of}
use Rattle.isdbs_plan.specs.RunLaws.{Whole}
use Rattle.isdbs_core.specs.Symbols.{pair_holds, first_pair, symbol_of_bit, marked_before, has_slot, run_byte, byte_in, slot_byte_symbol, slot_byte_said}
use Rattle.isdbs_core.specs.Answers.{byte_said}
use Rattle.isdbs_frame.specs.Frame.{slot_bytes}

step_le : (b : Bool) (n k : ℕ) → n ≤ k → cond b 0 (suc n) ≤ suc k
step_le true n k h = omega arith
step_le false n k h = omega arith

pub first_most : (i : ℕ) (ps : List BitPair) → first_pair i ps ≤ length ps
unfolding first_pair
first_most i [] = omega arith
first_most i (p ∷ ps) = step_le (pair_holds i p) (first_pair i ps) (length ps) (first_most i ps)

-- the search at an index
pub first_more : (i j : ℕ) (ps : List BitPair) (d : BitPair) → j < length ps → first_pair i (drop j ps) ≡ cond (pair_holds i (get_or ps j d)) 0 (suc (first_pair i (drop (j + 1) ps)))
unfolding first_pair
first_more i j ps d h = rw (add-one j, drop-cons ps j d h)

pub first_end : (i j : ℕ) (ps : List BitPair) → length ps ≤ j → first_pair i (drop j ps) ≡ 0
unfolding first_pair
first_end i j ps h = rw (drop_of_length-le ps h)

-- whole periods take no more symbols than bits
pub pairs_most : (p : Puncture) (b : ℕ) → b / period_of p * length (pairs_of p) ≤ b
pairs_most R2_3 b = omega arith
pairs_most R3_4 b = omega arith
pairs_most R5_6 b = omega arith
pairs_most R7_8 b = omega arith

-- each input of a period is in a pair
pub pair_found : (p : Puncture) (i : ℕ) → i < period_of p → first_pair i (pairs_of p) < length (pairs_of p)
unfolding first_pair
pair_found R2_3 zero h = lit< tt
pair_found R2_3 (suc zero) h = lit< tt
pair_found R2_3 (suc (suc zero)) h = lit< tt
pair_found R2_3 (suc (suc (suc zero))) h = lit< tt
pair_found R2_3 (suc (suc (suc (suc i)))) h = absurd (omega arith)
pair_found R3_4 zero h = lit< tt
pair_found R3_4 (suc zero) h = lit< tt
pair_found R3_4 (suc (suc zero)) h = lit< tt
pair_found R3_4 (suc (suc (suc i))) h = absurd (omega arith)
pair_found R5_6 zero h = lit< tt
pair_found R5_6 (suc zero) h = lit< tt
pair_found R5_6 (suc (suc zero)) h = lit< tt
pair_found R5_6 (suc (suc (suc zero))) h = lit< tt
pair_found R5_6 (suc (suc (suc (suc zero)))) h = lit< tt
pair_found R5_6 (suc (suc (suc (suc (suc i))))) h = absurd (omega arith)
pair_found R7_8 zero h = lit< tt
pair_found R7_8 (suc zero) h = lit< tt
pair_found R7_8 (suc (suc zero)) h = lit< tt
pair_found R7_8 (suc (suc (suc zero))) h = lit< tt
pair_found R7_8 (suc (suc (suc (suc zero)))) h = lit< tt
pair_found R7_8 (suc (suc (suc (suc (suc zero))))) h = lit< tt
pair_found R7_8 (suc (suc (suc (suc (suc (suc zero)))))) h = lit< tt
pair_found R7_8 (suc (suc (suc (suc (suc (suc (suc i))))))) h = absurd (omega arith)

-- the bits of q units' valid slots lie in the symbols of q units
pub symbol_below : (c : Combination) (q b : ℕ) → b < q * (unit_of c).valid * slot_bits → symbol_of_bit c b < q * ((unit_of c).slots * slot_symbols)
symbol_below Bpsk1_2 q b h = omega arith
symbol_below Qpsk1_2 q b h = omega arith
symbol_below Qpsk2_3 q b h = let f = pair_found R2_3 (b % 4) (omega arith) in omega arith
symbol_below Qpsk3_4 q b h = let f = pair_found R3_4 (b % 3) (omega arith) in omega arith
symbol_below Qpsk5_6 q b h = let f = pair_found R5_6 (b % 5) (omega arith) in omega arith
symbol_below Qpsk7_8 q b h = let f = pair_found R7_8 (b % 7) (omega arith) in omega arith
symbol_below Tc8psk2_3 q b h = omega arith

more_le : (b : Bool) (n k : ℕ) → n ≤ k → cond b (suc n) n ≤ suc k
more_le true n k h = omega arith
more_le false n k h = omega arith

pub marked_most : (c : Combination) (k : ℕ) → marked_before c k ≤ k
unfolding marked_before
marked_most c zero = omega arith
marked_most c (suc k) = more_le (marked c k) (marked_before c k) k (marked_most c k)

pub marked_more : (c : Combination) (k : ℕ) (b : Bool) → b ≡ marked c k → marked_before c (k + 1) ≡ cond b (suc (marked_before c k)) (marked_before c k)
unfolding marked_before
marked_more c k b e = rw (add-one k, e)

-- ---- marked slots in closed form: those of the whole units before, and those of the unit begun

abbrev least : ℕ → ℕ → ℕ
least m v = cond (ltb m v) m v

abbrev pub marked_in : Combination → ℕ → ℕ
marked_in c k = k / (unit_of c).slots * (unit_of c).valid + least (k % (unit_of c).slots) (unit_of c).valid

counted : (m v q m' q' : ℕ) → (m < v → m' < v → suc (q + m) ≡ q' + m') → (m < v → v ≤ m' → suc (q + m) ≡ q' + v) → (v ≤ m → m' < v → q + v ≡ q' + m') → (v ≤ m → v ≤ m' → q + v ≡ q' + v)
    → cond (ltb m v) (suc (q + least m v)) (q + least m v) ≡ q' + least m' v
counted m v q m' q' a b c d = by (ltb m v) (ltb m' v) refl refl
  where
    by : (x y : Bool) → ltb m v ≡ x → ltb m' v ≡ y → cond x (suc (q + cond x m v)) (q + cond x m v) ≡ q' + cond y m' v
    by true true h k = a (ltb-true m v h) (ltb-true m' v k)
    by true false h k = b (ltb-true m v h) (ltb-false m' v k)
    by false true h k = c (ltb-false m v h) (ltb-true m' v k)
    by false false h k = d (ltb-false m v h) (ltb-false m' v k)

none_marked : (c : Combination) → 0 ≡ marked_in c 0
none_marked Bpsk1_2 = refl
none_marked Qpsk1_2 = refl
none_marked Qpsk2_3 = refl
none_marked Qpsk3_4 = refl
none_marked Qpsk5_6 = refl
none_marked Qpsk7_8 = refl
none_marked Tc8psk2_3 = refl

one_more : (c : Combination) (k : ℕ) → cond (marked c k) (suc (marked_in c k)) (marked_in c k) ≡ marked_in c (suc k)
one_more Bpsk1_2 k = counted (k % 4) 1 (k / 4 * 1) (suc k % 4) (suc k / 4 * 1) (λ h i. omega arith) (λ h i. omega arith) (λ h i. omega arith) (λ h i. omega arith)
one_more Qpsk1_2 k = counted (k % 2) 1 (k / 2 * 1) (suc k % 2) (suc k / 2 * 1) (λ h i. omega arith) (λ h i. omega arith) (λ h i. omega arith) (λ h i. omega arith)
one_more Qpsk2_3 k = counted (k % 3) 2 (k / 3 * 2) (suc k % 3) (suc k / 3 * 2) (λ h i. omega arith) (λ h i. omega arith) (λ h i. omega arith) (λ h i. omega arith)
one_more Qpsk3_4 k = counted (k % 4) 3 (k / 4 * 3) (suc k % 4) (suc k / 4 * 3) (λ h i. omega arith) (λ h i. omega arith) (λ h i. omega arith) (λ h i. omega arith)
one_more Qpsk5_6 k = counted (k % 6) 5 (k / 6 * 5) (suc k % 6) (suc k / 6 * 5) (λ h i. omega arith) (λ h i. omega arith) (λ h i. omega arith) (λ h i. omega arith)
one_more Qpsk7_8 k = counted (k % 8) 7 (k / 8 * 7) (suc k % 8) (suc k / 8 * 7) (λ h i. omega arith) (λ h i. omega arith) (λ h i. omega arith) (λ h i. omega arith)
one_more Tc8psk2_3 k = counted (k % 1) 1 (k / 1 * 1) (suc k % 1) (suc k / 1 * 1) (λ h i. omega arith) (λ h i. omega arith) (λ h i. omega arith) (λ h i. omega arith)

pub marked_count : (c : Combination) (k : ℕ) → marked_before c k ≡ marked_in c k
unfolding marked_before
marked_count c zero = none_marked c
marked_count c (suc k) = rw (marked_count c k) (one_more c k)

whole_least : (c : Combination) (n : ℕ) → n % (unit_of c).slots ≡ 0 → marked_in c n ≡ n / (unit_of c).slots * (unit_of c).valid
whole_least Bpsk1_2 n h = rw h (omega arith)
whole_least Qpsk1_2 n h = rw h (omega arith)
whole_least Qpsk2_3 n h = rw h (omega arith)
whole_least Qpsk3_4 n h = rw h (omega arith)
whole_least Qpsk5_6 n h = rw h (omega arith)
whole_least Qpsk7_8 n h = rw h (omega arith)
whole_least Tc8psk2_3 n h = rw h (omega arith)

-- whole units have as many marked slots as valid ones
pub marked_whole : (c : Combination) (n : ℕ) → n % (unit_of c).slots ≡ 0 → marked_before c n ≡ n / (unit_of c).slots * (unit_of c).valid
marked_whole c n h = marked_count c n ∙ whole_least c n h

unit_below : (c : Combination) (k q : ℕ) → k < q * (unit_of c).slots → k % (unit_of c).slots < (unit_of c).valid → k / (unit_of c).slots * (unit_of c).valid + k % (unit_of c).slots < q * (unit_of c).valid
unit_below Bpsk1_2 k q h l = omega arith
unit_below Qpsk1_2 k q h l = omega arith
unit_below Qpsk2_3 k q h l = omega arith
unit_below Qpsk3_4 k q h l = omega arith
unit_below Qpsk5_6 k q h l = omega arith
unit_below Qpsk7_8 k q h l = omega arith
unit_below Tc8psk2_3 k q h l = omega arith

-- before a marked slot of q units there are fewer marked slots than q units have valid ones
pub marked_below : (c : Combination) (k q : ℕ) → k < q * (unit_of c).slots → marked c k ≡ true → marked_before c k < q * (unit_of c).valid
marked_below c k q h e = rw (marked_count c k, e) (unit_below c k q h (ltb-true (k % (unit_of c).slots) (unit_of c).valid e))

bit_below : (x m byte : ℕ) → m < x → byte < slot_bytes → m * slot_bits + 8 * byte < x * slot_bits
bit_below x m byte h l = omega arith

-- a byte of a marked slot of a run lies in the run's symbols
pub byte_inside : (r : Run) (k byte : ℕ) → Whole r → r.slot_start + k < r.slot_end → marked r.combination k ≡ true → byte < slot_bytes
    → r.symbol_start + symbol_of_bit r.combination (marked_before r.combination k * slot_bits + 8 * byte) < r.symbol_end
byte_inside r k byte w h e l =
    let c = r.combination in
    let q = w.units in
    let n : k < q * (unit_of c).slots = omega (arith, w.slots) in
    let b = bit_below (q * (unit_of c).valid) (marked_before c k) byte (marked_below c k q n e) l in
    let s = symbol_below c q (marked_before c k * slot_bits + 8 * byte) b in
    omega (arith, w.symbols)

-- the slots of runs by index
pub byte_more : (rs : List Run) (i slot byte : ℕ) (d : Run) → i < length rs →
    byte_in (drop i rs) slot byte ≡ cond (has_slot (get_or rs i d) slot) (run_byte (get_or rs i d) (slot - (get_or rs i d).slot_start) byte) (byte_in (drop (i + 1) rs) slot byte)
unfolding byte_in
byte_more rs i slot byte d h = rw (add-one i, drop-cons rs i d h)

pub byte_end : (rs : List Run) (i slot byte : ℕ) → length rs ≤ i → byte_in (drop i rs) slot byte ≡ None
unfolding byte_in
byte_end rs i slot byte h = rw (drop_of_length-le rs h)

-- the run past the count has no slot
skipped : (slot byte : ℕ) (x : Option ℕ) → cond (has_slot no_run slot) (run_byte no_run (slot - 0) byte) x ≡ x
skipped slot byte x = rw (leb-zero slot, leb-suc-zero slot)

no_slot : (n slot byte : ℕ) → byte_in (replicate n no_run) slot byte ≡ None
unfolding byte_in
no_slot zero slot byte = refl
no_slot (suc n) slot byte = skipped slot byte (byte_in (replicate n no_run) slot byte) ∙ no_slot n slot byte

pub byte_append : (rs : List Run) (n slot byte : ℕ) → byte_in (rs ++ replicate n no_run) slot byte ≡ byte_in rs slot byte
unfolding byte_in
byte_append [] n slot byte = no_slot n slot byte
byte_append (r ∷ rs) n slot byte = rw (byte_append rs n slot byte)

pub byte_padded : (n : ℕ) (rs : List Run) (slot byte : ℕ) → byte_in (padded n no_run rs) slot byte ≡ byte_in rs slot byte
byte_padded n rs slot byte = byte_append rs (n - length rs) slot byte

-- ---- document 01's number and values of a slot's byte: 0 and the place, 0 and none, or the table's row and none
said_by : (a : Answer) (x : Option ℕ) → byte_said (answered a x) ≡ cond {A = Said} (accepted a) (byte_said (Ok x)) (number_of a, [])
said_by (Ok _) x = refl
said_by (Err row) x = rw (is_refused (Err row) err_refuses)

pub byte_said_lem : (t : Table) (slot byte : ℕ) → byte_said (slot_byte_symbol t slot byte) ≡ slot_byte_said t slot byte
byte_said_lem t slot byte = said_by (table_answer t) (byte_in (runs_of t) slot byte)

-- The combinations of modulation and code, as document 01, "Runs and points", lists them. The Rust cites ITU-R BO.1408-1 and MIC Ordinance No. 87 of 2011 for them: at each table which.
--
use Rattle.std.specs.Prelude.{cond, List, [], ◌∷◌, ℕ, suc, ◌+◌, ◌-◌, ◌*◌, ◌/◌, ◌%◌, eqb, ltb, length, get_or, Option, Some, None}
use Rattle.isdbs_combination.specs.declared.Combination.{Combination}
use Rattle.isdbs_combination.specs.declared.Combination.TheVariants.{Bpsk1_2, Qpsk1_2, Qpsk2_3, Qpsk3_4, Qpsk5_6, Qpsk7_8, Tc8psk2_3}
use Rattle.isdbs_combination.specs.declared.Modulation.{Modulation}
use Rattle.isdbs_combination.specs.declared.Modulation.TheVariants.{Bpsk, Qpsk, Tc8psk}
use Rattle.isdbs_combination.specs.declared.CombinationWord.{CombinationWord}
use Rattle.isdbs_combination.specs.declared.CombinationWord.TheVariants.{Assigned, Dummy, Reserved}
use Rattle.isdbs_combination.specs.declared.Puncture.{Puncture}
use Rattle.isdbs_combination.specs.declared.Puncture.TheVariants.{R2_3, R3_4, R5_6, R7_8}
use Rattle.isdbs_combination.specs.declared.Ratio.{Ratio}
use Rattle.isdbs_combination.specs.declared.SlotUnit.{SlotUnit}
use Rattle.isdbs_combination.specs.declared.BitPair.{BitPair}
use Rattle.isdbs_combination.specs.declared.BitPairs.{BitPairs}
use Rattle.trellis.specs.Lists.{padded}

-- "words 1 to 7 are BPSK 1/2, QPSK 1/2, 2/3, 3/4, 5/6, 7/8, TC8PSK 2/3" (BO.1408-1, Table 1); no other word has a combination
abbrev pub words : List (Option Combination)
words =
    None
    ∷ Some Bpsk1_2
    ∷ Some Qpsk1_2
    ∷ Some Qpsk2_3
    ∷ Some Qpsk3_4
    ∷ Some Qpsk5_6
    ∷ Some Qpsk7_8
    ∷ Some Tc8psk2_3
    ∷ []

abbrev pub combination_of : ℕ → Option Combination
combination_of w = get_or words w None

-- a word without combination: 15 is the dummy of unused entries, the others are reserved
abbrev pub unassigned : ℕ → Option Combination → CombinationWord
unassigned w (Some c) = Assigned c
unassigned w None = cond (eqb w 15) Dummy (Reserved w)

-- "a word, of which the low 4 bits count"
abbrev pub word_means : ℕ → CombinationWord
word_means w = unassigned (w % 16) (combination_of (w % 16))

abbrev pub assigned_of : CombinationWord → Option Combination
assigned_of (Assigned c) = Some c
assigned_of Dummy = None
assigned_of (Reserved w) = None

-- ---- the figures of a combination
abbrev ratio : ℕ → ℕ → Ratio
ratio n d = record { num = n; den = d }

abbrev unit : ℕ → ℕ → SlotUnit
unit n v = record { slots = n; valid = v }

-- the slots of a frame; the bits of a valid slot; the symbols of a slot
abbrev pub frame_slots : ℕ
frame_slots = 48

abbrev pub slot_bits : ℕ
slot_bits = 1624

abbrev pub slot_symbols : ℕ
slot_symbols = 812

-- its word and modulation; the code's rate; information bits per symbol (the rate times the coded bits of a symbol; TC8PSK carries two); "(slots, valid slots) per
-- unit"; trellis steps of a valid slot (one for each of its bits; TC8PSK takes two bits a step, one of them uncoded); the punctured code, if it has one
pub record Figures : Type 0 where
  pub word : ℕ
  pub modulation : Modulation
  pub rate : Ratio
  pub efficiency : Ratio
  pub slot_unit : SlotUnit
  pub steps : ℕ
  pub punctured : Option Puncture

-- "words 1 to 7 are BPSK 1/2, QPSK 1/2, 2/3, 3/4, 5/6, 7/8, TC8PSK 2/3, with (slots, valid slots) per unit (4,1) (2,1) (3,2) (4,3) (6,5) (8,7) (1,1)" (words: BO.1408-1, Table 1;
-- units: the ordinance, annexed table 48, appended note 3; efficiency: BO.1408-1, section 3.2, equation (1))
abbrev pub figures : Combination → Figures
figures Bpsk1_2 = record { word = 1; modulation = Bpsk; rate = ratio 1 2; efficiency = ratio 1 2; slot_unit = unit 4 1; steps = slot_bits; punctured = None }
figures Qpsk1_2 = record { word = 2; modulation = Qpsk; rate = ratio 1 2; efficiency = ratio 2 2; slot_unit = unit 2 1; steps = slot_bits; punctured = None }
figures Qpsk2_3 = record { word = 3; modulation = Qpsk; rate = ratio 2 3; efficiency = ratio 4 3; slot_unit = unit 3 2; steps = slot_bits; punctured = Some R2_3 }
figures Qpsk3_4 = record { word = 4; modulation = Qpsk; rate = ratio 3 4; efficiency = ratio 6 4; slot_unit = unit 4 3; steps = slot_bits; punctured = Some R3_4 }
figures Qpsk5_6 = record { word = 5; modulation = Qpsk; rate = ratio 5 6; efficiency = ratio 10 6; slot_unit = unit 6 5; steps = slot_bits; punctured = Some R5_6 }
figures Qpsk7_8 = record { word = 6; modulation = Qpsk; rate = ratio 7 8; efficiency = ratio 14 8; slot_unit = unit 8 7; steps = slot_bits; punctured = Some R7_8 }
figures Tc8psk2_3 = record { word = 7; modulation = Tc8psk; rate = ratio 2 3; efficiency = ratio 2 1; slot_unit = unit 1 1; steps = slot_bits / 2; punctured = None }

abbrev pub word_of : Combination → ℕ
word_of c = (figures c).word

abbrev pub modulation_of : Combination → Modulation
modulation_of c = (figures c).modulation

abbrev pub rate_of : Combination → Ratio
rate_of c = (figures c).rate

abbrev pub efficiency_of : Combination → Ratio
efficiency_of c = (figures c).efficiency

abbrev pub unit_of : Combination → SlotUnit
unit_of c = (figures c).slot_unit

abbrev pub slot_steps : Combination → ℕ
slot_steps c = (figures c).steps

abbrev pub puncture_of : Combination → Option Puncture
puncture_of c = (figures c).punctured

-- the word that a meaning has
abbrev pub word_value : CombinationWord → ℕ
word_value (Assigned c) = word_of c
word_value Dummy = 15
word_value (Reserved w) = w

-- coded bits of a symbol
abbrev pub symbol_bits : Modulation → ℕ
symbol_bits Bpsk = 1
symbol_bits Qpsk = 2
symbol_bits Tc8psk = 3

-- the combinations from the most to the least efficient
abbrev pub by_efficiency : List Combination
by_efficiency = Tc8psk2_3 ∷ Qpsk7_8 ∷ Qpsk5_6 ∷ Qpsk3_4 ∷ Qpsk2_3 ∷ Qpsk1_2 ∷ Bpsk1_2 ∷ []

-- how many of a list are more efficient than the ratio
unfoldable pub above : Ratio → List Combination → ℕ
above r [] = 0
above r (c ∷ cs) = cond (ltb (r.num * (efficiency_of c).den) ((efficiency_of c).num * r.den)) (suc (above r cs)) (above r cs)

-- the rank of a combination: how many are more efficient
abbrev pub rank_of : Combination → ℕ
rank_of c = above (efficiency_of c) by_efficiency

-- mother bits by number: outputs X_i and Y_i of input i of a period, from 1
abbrev pub X : ℕ → ℕ
X i = 2 * (i - 1)

abbrev pub Y : ℕ → ℕ
Y i = 2 * (i - 1) + 1

abbrev pair : ℕ → ℕ → BitPair
pair a b = record { p1 = a; p0 = b }

-- "Punctured QPSK pairs per period: 2/3, period 4: X1Y1 Y2X3 Y3Y4; 3/4: X1Y1 Y2X3; 5/6: X1Y1 Y2X3 Y4X5; 7/8: X1Y1 Y2Y3 Y4X5 Y6X7"
-- (BO.1408-1, Table 2; the ordinance, annexed table 49, note 4)
abbrev pub pairs_of : Puncture → List BitPair
pairs_of R2_3 = pair (X 1) (Y 1) ∷ pair (Y 2) (X 3) ∷ pair (Y 3) (Y 4) ∷ []
pairs_of R3_4 = pair (X 1) (Y 1) ∷ pair (Y 2) (X 3) ∷ []
pairs_of R5_6 = pair (X 1) (Y 1) ∷ pair (Y 2) (X 3) ∷ pair (Y 4) (X 5) ∷ []
pairs_of R7_8 = pair (X 1) (Y 1) ∷ pair (Y 2) (Y 3) ∷ pair (Y 4) (X 5) ∷ pair (Y 6) (X 7) ∷ []

-- input bits per period
abbrev pub period_of : Puncture → ℕ
period_of R2_3 = 4
period_of R3_4 = 3
period_of R5_6 = 5
period_of R7_8 = 7

-- the pairs as four records and a count, with (0, 0) past the count
abbrev pub four_pairs : Puncture → BitPairs
four_pairs p = record { count = length (pairs_of p); pairs = padded 4 (pair 0 0) (pairs_of p) }

-- a period of a combination: as many steps as symbols carry whole. Unpunctured, a step is a period: BPSK sends X then Y, QPSK and TC8PSK one symbol
abbrev pub period_steps : Option Puncture → ℕ
period_steps (Some p) = period_of p
period_steps None = 1

abbrev pub period_symbols : Option Puncture → Modulation → ℕ
period_symbols (Some p) m = length (pairs_of p)
period_symbols None Bpsk = 2
period_symbols None Qpsk = 1
period_symbols None Tc8psk = 1

-- information bits of a step: TC8PSK takes C2 uncoded besides the coded bit
abbrev pub step_bits : Modulation → ℕ
step_bits Bpsk = 1
step_bits Qpsk = 1
step_bits Tc8psk = 2

-- pairs of the bits of a list, two by two
abbrev pub pairs_from : ℕ → List ℕ → BitPairs
pairs_from n b =
    record {
      count = n;
      pairs = pair (get_or b 0 0) (get_or b 1 0) ∷ pair (get_or b 2 0) (get_or b 3 0) ∷ pair (get_or b 4 0) (get_or b 5 0) ∷ pair (get_or b 6 0) (get_or b 7 0) ∷ [];
    }

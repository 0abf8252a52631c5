-- The lettered examples of document 01: one list, and one theorem that all of it holds, over the definitions that the contracts cite.
use Rattle.std.specs.Prelude.{◌≡◌, refl, false, List, [], ◌∷◌, ℕ, pos, negsuc, Float}
use Rattle.refusal.specs.Rows.{Accepted, number_of, Said}
use Rattle.isdbs_combination.specs.declared.Combination.{Combination}
use Rattle.isdbs_combination.specs.declared.Combination.TheVariants.{Bpsk1_2, Qpsk1_2, Qpsk7_8, Tc8psk2_3}
use Rattle.isdbs_tables.specs.declared.Entry.{Entry}
use Rattle.isdbs_tables.specs.declared.Table.{Table}
use Rattle.isdbs_plan.specs.declared.Run.{Run}
use Rattle.isdbs_frame.specs.Frame.{main_symbol_position, burst_symbol_position}
use Rattle.isdbs_tables.specs.Tables.{slot_sum, some, table_rows, table_answer}
use Rattle.isdbs_plan.specs.RunsOf.{runs_from, runs_of, valid_in, valid_total}
use Rattle.isdbs_core.specs.Symbols.{first_pair, bit_symbol}
use Rattle.std.specs.Float.{fin, binary32}
use Rattle.std.specs.Float.Ieee.{add, sub, neg, lt, of_bits}
use Rattle.trellis.specs.Isdb.{call, flush}
use Rattle.trellis.specs.Lists.{upto, packed}
use Rattle.trellis.specs.Code.{isdb, tapped, output, label, state_at}
use Rattle.trellis.specs.Encoded.{encoded}
use Rattle.trellis.specs.Step.{four, branch, cand, wins, next, nexts, word, top, best, renormalised, kept, back, input, traced}
use Rattle.trellis.specs.Run.{start_at, settled, released, stepped, after}
use Rattle.ieee.specs.Conversion.{rounded}
use Rattle.ieee_cast.specs.Soft.{soft_of}
use Rattle.isdbs_points.specs.Frame.{state_after}

-- entry of a word and its slots; a table of two, the others not in use
abbrev entry : ℕ → ℕ → Entry
entry w n = record { word = w; slots = n }

abbrev two : Entry → Entry → Table
two a b = record { entries = a ∷ b ∷ entry 15 0 ∷ entry 15 0 ∷ [] }

-- a run of slots a up to b, with v valid ones, of symbols s up to e
abbrev run : Combination → ℕ → ℕ → ℕ → ℕ → ℕ → Run
run c a b v s e = record { combination = c; slot_start = a; slot_end = b; valid_slots = v; symbol_start = s; symbol_end = e }

-- "`state_after`: W1 1B95 → 42, W2 A340 → 0, W3 5CBF → 63 (words hexadecimal)."
abbrev pub A : Type 0
A = (state_after 0x1b95 ≡ 42) × (state_after 0xa340 ≡ 0) × (state_after 0x5cbf ≡ 63)

-- "State 0, inputs 1 and six 0: X 1111001, Y 1011011."
abbrev pub B : Type 0
B = encoded isdb 0 (1 ∷ 0 ∷ 0 ∷ 0 ∷ 0 ∷ 0 ∷ 0 ∷ []) ≡ 3 ∷ 2 ∷ 3 ∷ 3 ∷ 0 ∷ 1 ∷ 3 ∷ []

-- "State 32, input 0: (1, 0)."
abbrev pub C : Type 0
C = label isdb 0 32 ≡ 2

-- "BPSK 4 slots, TC8PSK 44: symbols 0 to 3,247 and 3,248 to 38,975; 45 valid slots."
abbrev pub D : Type 0
D =
    (table_answer (two (entry 1 4) (entry 7 44)) ≡ Accepted)
    × (runs_of (two (entry 1 4) (entry 7 44)) ≡ run Bpsk1_2 0 4 1 0 3248 ∷ run Tc8psk2_3 4 48 44 3248 38976 ∷ [])
    × (valid_total (two (entry 1 4) (entry 7 44)) ≡ 45)

-- "QPSK 2/3, 5 slots": document 02, P5, "Example E becomes a refusal", by row 10
abbrev pub E : Type 0
E = number_of (table_answer (two (entry 3 5) (entry 15 0))) ≡ 10

-- "Word 15 (no combination), 10 slots, then QPSK 1/2, 2: slots 10 and 11, symbols 0 to 1,623."
abbrev pub F : Type 0
F =
    (table_answer (two (entry 15 10) (entry 2 2)) ≡ Accepted)
    × (runs_of (two (entry 15 10) (entry 2 2)) ≡ run Qpsk1_2 10 12 1 0 1624 ∷ [])

-- accepted, with the position p
abbrev at : ℕ → Said
at p = (0, p ∷ [])

-- "`bit_symbol` 7/8: bits 4, 6, 7 → 2, 3, 4."
abbrev pub G : Type 0
G = (bit_symbol Qpsk7_8 4 ≡ at 2) × (bit_symbol Qpsk7_8 6 ≡ at 3) × (bit_symbol Qpsk7_8 7 ≡ at 4)

-- "Main 203 → 399; 38,975 → 39,931; burst 191, 3 → 39,935."
abbrev pub H : Type 0
H = (main_symbol_position 203 ≡ at 399) × (main_symbol_position 38975 ≡ at 39931) × (burst_symbol_position 191 3 ≡ at 39935)

-- the bits that a fresh decoder of known state 0 gives after n quadruples m and a flush
abbrev read_from0 : List Float → ℕ → List ℕ
read_from0 m n = (flush (call 128 (λ k. four m) (record { values = start_at 64 0; words = []; bits = [] }) n)).bits

abbrev quadruple : Float → Float → Float → Float → List Float
quadruple a b c d = a ∷ b ∷ c ∷ d ∷ []

abbrev zero : Float
zero = of_bits binary32 0

abbrev one : Float
one = of_bits binary32 0x3f80_0000

-- "Fresh known state 0, one quadruple: ..; (0,0,0,1) → 1. None: no bits." Document 02, P12: "Example I's all-zero quadruple then gives 1."
abbrev pub I : Type 0
I =
    (read_from0 (quadruple zero zero zero zero) 1 ≡ 1 ∷ [])
    × (read_from0 (quadruple zero zero zero one) 1 ≡ 1 ∷ [])
    × (read_from0 [] 0 ≡ [])

-- "`soft`: 1+2^−24 → 1; 1+3×2^−24 → 1+2^−22; 2^−150 → 0."
abbrev pub J : Type 0
J =
    (soft_of (fin false 16777217 (negsuc 23)) ≡ fin false 1 (pos 0))
    × (soft_of (fin false 16777219 (negsuc 23)) ≡ fin false 4194305 (negsuc 21))
    × (soft_of (fin false 1 (negsuc 149)) ≡ fin false 0 (pos 0))

-- the list: each statement with its proof, so that an example is a line
pub record Example : Type 1 where
  pub says : Type 0
  pub holds : says

abbrev pub lettered : List Example
unfolding slot_sum some table_rows runs_from valid_in first_pair state_after state_at encoded label output tapped start_at settled released stepped after upto packed branch cand wins next nexts word top best renormalised kept back input traced of_bits add sub neg lt soft_of rounded
lettered =
    record { says = A; holds = (refl, refl, refl) }
    ∷ record { says = B; holds = refl }
    ∷ record { says = C; holds = refl }
    ∷ record { says = D; holds = (refl, refl, refl) }
    ∷ record { says = E; holds = refl }
    ∷ record { says = F; holds = (refl, refl) }
    ∷ record { says = G; holds = (refl, refl, refl) }
    ∷ record { says = H; holds = (refl, refl, refl) }
    ∷ record { says = I; holds = (refl, refl, refl) }
    ∷ record { says = J; holds = (refl, refl, refl) }
    ∷ []

abbrev pub All : List Example → Type 0
All [] = Unit
All (e ∷ es) = e.says × All es

each : (es : List Example) → All es
each [] = tt
each (e ∷ es) = (e.holds, each es)

-- the lettered examples hold
pub hold : All lettered
hold = each lettered

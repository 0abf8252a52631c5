-- A run by itself, read bit by bit of its load from the state that the runs before it leave.
use Rattle.std.specs.Prelude.{cond, List, ℕ, zero, suc, ◌+◌, ◌*◌, ◌/◌, ◌%◌, ◌≤◌, ◌-◌, ◌<◌, eqb, Float}
use Rattle.trellis.specs.Code.{moved}
use Rattle.isdbs_combination.specs.declared.Combination.{Combination}
use Rattle.isdbs_combination.specs.declared.Modulation.{Modulation}
use Rattle.isdbs_combination.specs.declared.Modulation.TheVariants.{Bpsk, Qpsk, Tc8psk}
use Rattle.isdbs_tables.specs.declared.Table.{Table}
use Rattle.isdbs_combination.specs.Combinations.{modulation_of}
use Rattle.isdbs_frame.specs.Frame.{main_symbols}
use Rattle.isdbs_points.specs.declared.Cplx.{Cplx}
use Rattle.isdbs_points.specs.declared.Mapping.{Mapping}
use Rattle.isdbs_points.specs.Layout.{Segment, byte_of}
use Rattle.isdbs_metrics.specs.Steps.{Reaches}
use Rattle.wanted_read.specs.ReadOff.{shown, psk8_label, input_from, read_bit}
use Rattle.trellis.specs.Isdb

-- a run that starts at a symbol of the frame
abbrev pub run_at : Combination → ℕ → Segment
run_at c symbol = record { combination = c; symbol = symbol; symbols = 0; step = 0; steps = 0; bit = 0; bits = 0 }

-- the step of a run that bit i of its load is read at
abbrev pub step_by : Modulation → ℕ → ℕ
step_by Bpsk i = i
step_by Qpsk i = i
step_by Tc8psk i = i / 2

abbrev pub step_of : Combination → ℕ → ℕ
step_of c i = step_by (modulation_of c) i

-- the part or point that a coded bit is read from lies in the frame
abbrev pub SentIn : Modulation → ℕ → ℕ → ℕ → Type 0
SentIn Bpsk symbol n k = symbol + n < main_symbols
SentIn Qpsk symbol n k = symbol + n / 2 < main_symbols
SentIn Tc8psk symbol n k = symbol + k < main_symbols

-- the points of step k of a run that starts at a symbol do
abbrev pub InFrame : Combination → ℕ → ℕ → Type 0
InFrame c symbol k = (symbol ≤ main_symbols) × Reaches c k (main_symbols - symbol)

-- those of the 8 bits from bit `from` of its load, and those of its first n bytes
abbrev pub ByteIn : Combination → ℕ → ℕ → Type 0
ByteIn c symbol from = (i : ℕ) → i < 8 → InFrame c symbol (step_of c (from + i))

abbrev pub BytesIn : Combination → ℕ → ℕ → Type 0
BytesIn c symbol n = (i : ℕ) → i < 8 * n → InFrame c symbol (step_of c i)

module _ (m : Mapping) (z : ℕ → Cplx) where
  -- bit i of a run's load from the state s before it, and the state after it
  unfoldable pub bit_from : Modulation → ℕ → Segment → ℕ → ℕ
  bit_from Bpsk s g i = input_from m z s g i
  bit_from Qpsk s g i = input_from m z s g i
  bit_from Tc8psk s g i = cond (eqb (i % 2) 0) (psk8_label (z (g.symbol + i / 2)) / 4) (input_from m z s g (i / 2))

  unfoldable pub state_from : Modulation → ℕ → Segment → ℕ → ℕ
  state_from Bpsk s g i = moved Isdb.half (input_from m z s g i) s
  state_from Qpsk s g i = moved Isdb.half (input_from m z s g i) s
  state_from Tc8psk s g i = cond (eqb (i % 2) 0) s (moved Isdb.half (input_from m z s g (i / 2)) s)

  module _ (g : Segment) where
    abbrev pub next_bit : ℕ → ℕ → ℕ
    next_bit s i = bit_from (modulation_of g.combination) s g i

    abbrev pub next_state : ℕ → ℕ → ℕ
    next_state s i = state_from (modulation_of g.combination) s g i

    -- the state after n bits from bit a on, and bit i of these
    unfoldable pub state_after : ℕ → ℕ → ℕ → ℕ
    state_after s a zero = s
    state_after s a (suc n) = next_state (state_after s a n) (a + n)

    abbrev pub bit_after : ℕ → ℕ → ℕ → ℕ
    bit_after s a i = next_bit (state_after s a i) (a + i)

    -- the state after the first n bits of the run, its bit n, and its byte j
    unfoldable pub run_state : ℕ → ℕ → ℕ
    run_state s zero = s
    run_state s (suc n) = next_state (run_state s n) n

    abbrev pub run_bit : ℕ → ℕ → ℕ
    run_bit s n = next_bit (run_state s n) n

    abbrev pub run_byte : ℕ → ℕ → ℕ
    run_byte s j = byte_of (λ i. run_bit s (8 * j + i))

-- byte j of the frame's load
abbrev pub frame_byte : Table → Mapping → List Float → List Float → ℕ → ℕ → ℕ
frame_byte t m re im s j = byte_of (λ i. read_bit m (shown m re im) t s (8 * j + i))

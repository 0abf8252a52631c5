-- The load that a frame shows: what is read off its points, step by step, from the state that the steps before leave. Every step sends its X or its Y, and both
-- generators tap the input: the input is the coded bit that is sent, exclusive-or what the state would send for the input 0. No path is sought.
-- Of a frame that no load has, it is some load. Definitions only.
use Rattle.std.specs.Prelude.{Bool, cond, List, ℕ, zero, suc, ◌+◌, ◌*◌, ◌/◌, ◌%◌, get_or, length, eqb, ltb, Float}
use Rattle.std.specs.Float.{nan}
use Rattle.std.specs.Float.Ieee.{lt}
use Rattle.trellis.specs.Lists.{upto, bit, first_place}
use Rattle.trellis.specs.Code.{moved}
use Rattle.isdbs_combination.specs.declared.Modulation.{Modulation}
use Rattle.isdbs_combination.specs.declared.Modulation.TheVariants.{Bpsk, Qpsk, Tc8psk}
use Rattle.isdbs_tables.specs.declared.Table.{Table}
use Rattle.isdbs_combination.specs.Combinations.{modulation_of}
use Rattle.isdbs_plan.specs.RunsOf.{load_bytes}
use Rattle.isdbs_points.specs.declared.Cplx.{Cplx}
use Rattle.isdbs_points.specs.declared.Mapping.{Mapping}
use Rattle.isdbs_points.specs.Points.{point, zero64, subset, conjugated}
use Rattle.isdbs_points.specs.Layout.{Segment, order_of, at_step, at_bit, byte_of}
use Rattle.isdbs_points.specs.Frame.{coded_bit, start_state}
use Rattle.isdbs_points.specs.OrderLaws.{mother, number}
use Rattle.isdbs_metrics.specs.Reading.{part_of}
use Rattle.trellis.specs.Isdb

-- point k of the lent parts, its conjugation undone
abbrev pub shown : Mapping → List Float → List Float → ℕ → Cplx
shown m re im k = point (get_or re k nan) (conjugated m.conjugate (get_or im k nan))

-- ---- the bits of a point
-- the bit of a BPSK or QPSK part: 1 below 0
abbrev pub hard : Float → ℕ
hard x = bit (lt x zero64)

-- one of three numbers, by whether a part lies above 0, below it or at it
abbrev pub by_sign : ℕ → ℕ → ℕ → Float → ℕ
by_sign above below level x = cond (lt zero64 x) above (cond (lt x zero64) below level)

-- 4 C2 + 2 C1 + C0 of an 8PSK point, by the signs of its parts
unfoldable pub psk8_label : Cplx → ℕ
psk8_label z = by_sign (by_sign 1 6 0 z.im) (by_sign 2 5 4 z.im) (by_sign 3 7 7 z.im) z.re

-- ---- the inputs of a segment
-- the coded bit of step k that is read: X (0) where it is sent, else Y (1)
abbrev pub which : Segment → ℕ → ℕ
which g k = cond (ltb (first_place (mother g k 0) (order_of g.combination)) (length (order_of g.combination))) 0 1

module _ (m : Mapping) (z : ℕ → Cplx) where
  -- The coded bit b of step k of a run that starts at a symbol, as the points show it: the run sends it n-th
  unfoldable pub bit_as : Modulation → ℕ → ℕ → ℕ → ℕ → ℕ
  bit_as Bpsk symbol n k b = hard (z (symbol + n)).re
  bit_as Qpsk symbol n k b = hard (part_of m.qpsk_p1_on_q (z (symbol + n / 2)) (n % 2))
  bit_as Tc8psk symbol n k b = coded_bit b (subset m.tc8psk_c1_is_y (psk8_label (z (symbol + k)) % 4))

  abbrev pub bit_by : Modulation → Segment → ℕ → ℕ
  bit_by md g k = bit_as md g.symbol (number g k (which g k)) k (which g k)

  -- the input of step k of a segment, from the state s
  abbrev pub input_from : ℕ → Segment → ℕ → ℕ
  input_from s g k = (bit_by (modulation_of g.combination) g k + coded_bit (which g k) (Isdb.labels 0 s)) % 2

  -- ---- the frame, from the state s
  module _ (t : Table) (s : ℕ) where
    -- the state after n steps: "The encoder state carries on through all runs"
    unfoldable pub read_state : ℕ → ℕ
    read_state zero = s
    read_state (suc n) = moved Isdb.half (at_step 0 (input_from (read_state n)) t n) (read_state n)

    -- the input of step n
    abbrev pub read_input : ℕ → ℕ
    read_input n = at_step 0 (input_from (read_state n)) t n

    -- bit i of a segment's load: "TC8PSK takes C2 uncoded, then one coded bit"
    unfoldable pub read_by : Modulation → Segment → ℕ → ℕ
    read_by Bpsk g i = read_input (g.step + i)
    read_by Qpsk g i = read_input (g.step + i)
    read_by Tc8psk g i = cond (eqb (i % 2) 0) (psk8_label (z (g.symbol + i / 2)) / 4) (read_input (g.step + i / 2))

    abbrev pub read_bit : ℕ → ℕ
    read_bit = at_bit 0 (λ g i. read_by (modulation_of g.combination) g i) t

-- the load: "203 bytes for each" valid slot, "high bit first"
unfoldable pub read_off : Table → Mapping → Bool → List Float → List Float → List ℕ
read_off t m first re im = upto (λ j. byte_of (λ i. read_bit m (shown m re im) t (start_state first) (8 * j + i))) (load_bytes t)

-- The frame that encoding makes: what point k is. Document 01, "Runs and points".
use Rattle.std.specs.Prelude.{Bool, cond, List, ℕ, ◌+◌, ◌*◌, ◌/◌, ◌%◌, get_or, length, eqb, Float}
use Rattle.trellis.specs.Lists.{upto}
use Rattle.trellis.specs.Code.{state_at}
use Rattle.isdbs_combination.specs.declared.Modulation.{Modulation}
use Rattle.isdbs_combination.specs.declared.Modulation.TheVariants.{Bpsk, Qpsk, Tc8psk}
use Rattle.isdbs_tables.specs.declared.Table.{Table}
use Rattle.isdbs_frame.specs.Frame.{main_symbols, w2, w3, sync_bits}
use Rattle.isdbs_combination.specs.Combinations.{modulation_of}
use Rattle.isdbs_plan.specs.RunsOf.{frame_steps}
use Rattle.isdbs_points.specs.declared.Cplx.{Cplx}
use Rattle.isdbs_points.specs.declared.Mapping.{Mapping}
use Rattle.isdbs_points.specs.Points.{point, unused, bpsk_of, qpsk_of, psk8_of, subset, conjugated}
use Rattle.isdbs_points.specs.Layout.{Segment, order_of, steps_per_period, at_symbol, at_step, load_bit, word_bit}
use Rattle.trellis.specs.Isdb
pub use Rattle.trellis.specs.Isdb.{label_at}

-- the load's bit that enters the code at step k of a segment: "TC8PSK takes C2 uncoded, then one coded bit"
abbrev pub coded : Modulation → ℕ → ℕ
coded Bpsk k = k
coded Qpsk k = k
coded Tc8psk k = 2 * k + 1

abbrev pub input_in : List ℕ → Segment → ℕ → ℕ
input_in load g k = load_bit load (g.bit + coded (modulation_of g.combination) k)

-- the input bits of the whole frame: "The encoder state carries on through all runs"
unfoldable pub inputs : Table → List ℕ → List ℕ
inputs t load = upto (at_step 0 (input_in load) t) (frame_steps t)

-- a coded bit by its mother bit's number: X at even ones, Y at odd ones
abbrev pub coded_bit : ℕ → ℕ → ℕ
coded_bit a l = cond (eqb (a % 2) 0) (l / 2) (l % 2)

-- The coded bit that a BPSK or QPSK segment sends i-th. Each period of the pattern sends its mother bits in order; the pattern
-- restarts at each run. Mother bit a of a period belongs to its step a / 2. `at` gives 2 X + Y at each step of the frame.
abbrev pub sent_bit : (ℕ → ℕ) → Segment → ℕ → ℕ
sent_bit at g i =
    let c = g.combination in
    let n = length (order_of c) in
    let a = get_or (order_of c) (i % n) 0 in
    coded_bit a (at (g.step + (i / n * steps_per_period c + a / 2)))

-- the point of symbol j of a segment, before conjugation
unfoldable pub point_by : Modulation → Mapping → List ℕ → (ℕ → ℕ) → Segment → ℕ → Cplx
point_by Bpsk m load at g j = bpsk_of (sent_bit at g j)
point_by Qpsk m load at g j = qpsk_of m.qpsk_p1_on_q (sent_bit at g (2 * j)) (sent_bit at g (2 * j + 1))
point_by Tc8psk m load at g j = psk8_of (4 * load_bit load (g.bit + 2 * j) + subset m.tc8psk_c1_is_y (at (g.step + j)))

abbrev pub point_in : Mapping → List ℕ → (ℕ → ℕ) → Segment → ℕ → Cplx
point_in m load at g j = point_by (modulation_of g.combination) m load at g j

-- point k of the frame of a load, encoded from the state s
unfoldable pub point_at : Table → Mapping → List ℕ → ℕ → ℕ → Cplx
point_at t m load s k =
    let p = at_symbol unused (point_in m load (label_at s (inputs t load))) t k in
    point p.re (conjugated m.conjugate p.im)

-- the real and the imaginary parts of its 38,976 points
abbrev pub frame_re : Table → Mapping → List ℕ → ℕ → List Float
frame_re t m load s = upto (λ k. (point_at t m load s k).re) main_symbols

abbrev pub frame_im : Table → Mapping → List ℕ → ℕ → List Float
frame_im t m load s = upto (λ k. (point_at t m load s k).im) main_symbols

-- the encoder's state after the frame's last bit
abbrev pub end_state : Table → List ℕ → ℕ → ℕ
end_state t load s = state_at Isdb.half s (inputs t load) (frame_steps t)

-- "The start state is `state_after(W2)` when `first`, else `state_after(W3)`": the state that a 16-bit word leaves
unfoldable pub state_after : ℕ → ℕ
state_after w = state_at Isdb.half 0 (upto (word_bit w) sync_bits) sync_bits

abbrev pub start_state : Bool → ℕ
start_state first = cond first (state_after w2) (state_after w3)

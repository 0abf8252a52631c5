-- One run of a frame by itself: its symbols, steps and bits counted from its first. What a run's code writes and reads is said of these;
-- the frame is made of them.
use Rattle.std.specs.Prelude.{List, ℕ, ◌*◌, ◌/◌, length}
use Rattle.trellis.specs.Lists.{upto}
use Rattle.trellis.specs.Code.{state_at}
use Rattle.isdbs_combination.specs.declared.Combination.{Combination}
use Rattle.isdbs_combination.specs.declared.Modulation.{Modulation}
use Rattle.isdbs_combination.specs.declared.Modulation.TheVariants.{Bpsk, Qpsk, Tc8psk}
use Rattle.isdbs_combination.specs.Combinations.{modulation_of}
use Rattle.isdbs_points.specs.declared.Cplx.{Cplx}
use Rattle.isdbs_points.specs.declared.Mapping.{Mapping}
use Rattle.isdbs_points.specs.Points.{point, conjugated}
use Rattle.isdbs_points.specs.Layout.{Segment, order_of, steps_per_period}
use Rattle.isdbs_points.specs.Frame.{input_in, label_at}
use Rattle.trellis.specs.Isdb

-- a run whose first symbol and step are 0, and whose first bit of the load is `bit`
abbrev pub piece : Combination → ℕ → Segment
piece c bit = record { combination = c; symbol = 0; symbols = 0; step = 0; steps = 0; bit = bit; bits = 0 }

-- the inputs of its first n steps
abbrev pub piece_inputs : Combination → List ℕ → ℕ → ℕ → List ℕ
piece_inputs c load bit n = upto (input_in load (piece c bit)) n

-- 2 X + Y at each of its steps, encoded from the state s
abbrev pub piece_label : Combination → List ℕ → ℕ → ℕ → ℕ → ℕ → ℕ
piece_label c load bit n s = label_at s (piece_inputs c load bit n)

-- the state after them, from the state s
abbrev pub piece_state : Combination → List ℕ → ℕ → ℕ → ℕ → ℕ
piece_state c load bit n s = state_at Isdb.half s (piece_inputs c load bit n) n

-- the symbols of n steps
abbrev pub symbols_by : Modulation → Combination → ℕ → ℕ
symbols_by Bpsk c n = 2 * n
symbols_by Qpsk c n = n / steps_per_period c * (length (order_of c) / 2)
symbols_by Tc8psk c n = n

abbrev pub piece_symbols : Combination → ℕ → ℕ
piece_symbols c n = symbols_by (modulation_of c) c n

-- a point as the mapping leaves it: "`conjugate` negates every imaginary part"
abbrev pub mapped : Mapping → Cplx → Cplx
mapped m p = point p.re (conjugated m.conjugate p.im)

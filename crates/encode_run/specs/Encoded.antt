-- What encoding one run of a frame leaves, and its pieces: a table of points, a byte of TC8PSK, a period of QPSK.
use Rattle.isdbs_combination.specs.declared.Puncture.{Puncture}
use Rattle.std.specs.Prelude.{◌≡◌, cond, List, ℕ, ◌+◌, ◌-◌, ◌*◌, ◌/◌, ◌%◌, ◌<◌, ◌≤◌, eqb, ltb, length, get_or, Float, Option}
use Rattle.std.specs.Float.{nan}
use Rattle.trellis.specs.Lists.{upto, laid}
use Rattle.trellis.specs.Code.{state_at}
use Rattle.encode_bits.specs.Windows.{backward}
use Rattle.isdbs_combination.specs.declared.Combination.{Combination}
use Rattle.isdbs_points.specs.declared.Cplx.{Cplx}
use Rattle.isdbs_points.specs.declared.Mapping.{Mapping}
use Rattle.encode_run.specs.declared.Pattern.{Pattern}
use Rattle.encode_run.specs.declared.Period.{Period}
use Rattle.isdbs_points.specs.declared.PointTable.{PointTable}
use Rattle.isdbs_points.specs.Points.{qpsk_of, psk8_of, subset}
use Rattle.isdbs_points.specs.Layout.{order_in}
use Rattle.isdbs_combination.specs.Combinations.{period_steps}
use Rattle.isdbs_points.specs.Frame.{label_at, point_in, coded_bit}
use Rattle.encode_bits.specs.Bits.{byte_bit, word_bit, byte_inputs, plain_inputs}
use Rattle.isdbs_points.specs.Pieces.{piece, piece_label, piece_state, piece_symbols, mapped}
use Rattle.trellis.specs.Isdb

-- the parts of its points, encoded from the state s
unfoldable pub piece_point : Combination → Mapping → List ℕ → ℕ → ℕ → ℕ → ℕ → Cplx
piece_point c m load bit n s j = mapped m (point_in m load (piece_label c load bit n s) (piece c bit) j)

abbrev pub piece_re : Combination → Mapping → List ℕ → ℕ → ℕ → ℕ → List Float
piece_re c m load bit n s = upto (λ j. (piece_point c m load bit n s j).re) (piece_symbols c n)

abbrev pub piece_im : Combination → Mapping → List ℕ → ℕ → ℕ → ℕ → List Float
piece_im c m load bit n s = upto (λ j. (piece_point c m load bit n s j).im) (piece_symbols c n)

-- what encoding n steps of a run leaves: the state r, and the points over the beginning of the lent parts
pub record PieceEncoded (c : Combination) (m : Mapping) (load : List ℕ) (bit n s r : ℕ) (re₀ re im₀ im : List Float) : Type 0 where
  pub small : r < Isdb.states
  pub state_is : r ≡ piece_state c load bit n s
  pub re_is : re ≡ laid (piece_re c m load bit n s) re₀
  pub im_is : im ≡ laid (piece_im c m load bit n s) im₀

-- ---- the points by label
-- a table that has the points f 0, f 1, .., n of them
pub record TableOf (n : ℕ) (f : ℕ → Cplx) (t : PointTable 8) : Type 0 where
  pub re_at : (l : ℕ) → l < n → get_or t.re l nan ≡ (f l).re
  pub im_at : (l : ℕ) → l < n → get_or t.im l nan ≡ (f l).im

-- the QPSK point of 2 P1 + P0, and the TC8PSK point of 4 C2 + 2 X + Y, under a mapping
abbrev pub qpsk_label : Mapping → ℕ → Cplx
qpsk_label m l = mapped m (qpsk_of m.qpsk_p1_on_q (l / 2) (l % 2))

abbrev pub psk8_label : Mapping → ℕ → Cplx
psk8_label m l = mapped m (psk8_of (4 * (l / 4) + subset m.tc8psk_c1_is_y (l % 4)))

-- ---- the TC8PSK points by register
-- the register of step k, encoding the inputs us from the state s: the state with its stages in the other order, then the input
abbrev pub register_at : ℕ → List ℕ → ℕ → ℕ
register_at s us k = 2 * backward (state_at Isdb.half s us k) + get_or us k 0

-- 4 C2 + 2 X + Y of 128 C2 + a register
abbrev pub register_label : ℕ → ℕ
register_label w = 4 * (w / 128) + Isdb.labels (w % 2) (backward (w / 2 % Isdb.states))

-- a table that has the points there
pub record ByRegister (m : Mapping) (t : PointTable 256) : Type 0 where
  pub re_at : (w : ℕ) → w < 256 → get_or t.re w nan ≡ (psk8_label m (register_label w)).re
  pub im_at : (w : ℕ) → w < 256 → get_or t.im w nan ≡ (psk8_label m (register_label w)).im

-- ---- one byte of a TC8PSK run
-- 128 C2 + the register of its steps, encoded from the state s
abbrev pub byte_register : ℕ → ℕ → ℕ → ℕ
byte_register byte s i = 128 * byte_bit byte (2 * i) + register_at s (byte_inputs byte) i

-- what encoding a byte leaves: the state r, and its four points from the tables over the beginning of the lent parts. Both states have their stages in the other order
pub record ByteEncoded (byte s r : ℕ) (xs ys re₀ re im₀ im : List Float) : Type 0 where
  pub small : r < Isdb.states
  pub state_is : backward r ≡ state_at Isdb.half (backward s) (byte_inputs byte) 4
  pub re_is : re ≡ laid (upto (λ i. get_or xs (byte_register byte (backward s) i) nan) 4) re₀
  pub im_is : im ≡ laid (upto (λ i. get_or ys (byte_register byte (backward s) i) nan) 4) im₀

-- ---- one period of a QPSK run
-- mother bit a of a period by its steps' labels
abbrev pub pattern_bit : (ℕ → ℕ) → ℕ → ℕ → ℕ
pattern_bit at base a = coded_bit a (at (base + a / 2))

-- where it stands in the word of n steps' outputs: X of step k is digit 16 + n - 1 - k, Y digit n - 1 - k
unfoldable pub shift_of : ℕ → ℕ → ℕ
shift_of n a = cond (ltb (a / 2) n) (cond (eqb (a % 2) 0) (16 + (n - 1 - a / 2)) (n - 1 - a / 2)) 0

-- the same of the four mother bits p
pub record Shifted (n : ℕ) (p r : List ℕ) : Type 0 where
  pub each : (i : ℕ) → i < 4 → get_or r i 0 ≡ shift_of n (get_or p i 0)
  pub few : (i : ℕ) → i < 4 → get_or r i 0 ≤ 31

-- digit i of that word by the steps' labels, of which the first stands at `base`
unfoldable pub output_bit : (ℕ → ℕ) → ℕ → ℕ → ℕ → ℕ
output_bit at n base i = cond (ltb i 16) (at (base + (n - 1 - i)) % 2) (at (base + (n - 1 - (i - 16))) / 2)

-- a digit that holds an output of n steps
abbrev pub IsOutput : ℕ → ℕ → Type 0
IsOutput n i = (i % 16 < n) × (i < 32)

-- a period of n steps: its outputs, and the state after it. Both states have their stages in the other order
pub record PeriodEncoded (load : List ℕ) (bit n s : ℕ) (r : Period) : Type 0 where
  pub small : r.state < Isdb.states
  pub state_is : backward r.state ≡ state_at Isdb.half (backward s) (plain_inputs load bit n) n
  pub bits_are : (i : ℕ) → IsOutput n i → word_bit r.word i ≡ output_bit (label_at (backward s) (plain_inputs load bit n)) n 0 i

-- a pattern in the code's form: its steps, and its mother bits in pairs
pub record PatternOf (p : Option Puncture) (r : Pattern) : Type 0 where
  pub period_is : r.period ≡ period_steps p
  pub count_is : length (order_in p) ≡ 2 * r.count
  pub short : r.period ≤ 8
  pub some : 0 < r.period
  pub few : r.count ≤ 4
  pub pairs_many : 0 < r.count
  pub first : (i : ℕ) → i < r.count → get_or r.p1 i 0 ≡ get_or (order_in p) (2 * i) 0
  pub second : (i : ℕ) → i < r.count → get_or r.p0 i 0 ≡ get_or (order_in p) (2 * i + 1) 0
  pub within : (i : ℕ) → get_or (order_in p) i 0 / 2 < r.period

-- the first `count` of a list are mother bits, `last` at most
abbrev pub AtMost : ℕ → ℕ → List ℕ → Type 0
AtMost count last ms = (i : ℕ) → i < count → get_or ms i 0 ≤ last

-- 2 P1 + P0 of pair i of a period, whose bits stand in the word where s1 and s0 say
abbrev pub pair_label : ℕ → List ℕ → List ℕ → ℕ → ℕ
pair_label word s1 s0 i = 2 * word_bit word (get_or s1 i 0) + word_bit word (get_or s0 i 0)

-- 2 P1 + P0 of point j of a QPSK run whose pattern has `period` steps and `count` pairs; `at` gives 2 X + Y at each step of the run
unfoldable pub pattern_label : (ℕ → ℕ) → ℕ → ℕ → List ℕ → List ℕ → ℕ → ℕ
pattern_label at period count p1 p0 j =
    let base = j / count * period in
    2 * pattern_bit at base (get_or p1 (j % count) 0) + pattern_bit at base (get_or p0 (j % count) 0)

-- the same where the bits of a pair stand in the word of a period's outputs at the digits s1 and s0
unfoldable pub shifted_label : (ℕ → ℕ) → ℕ → ℕ → List ℕ → List ℕ → ℕ → ℕ
shifted_label at period count s1 s0 j =
    let base = j / count * period in
    2 * output_bit at period base (get_or s1 (j % count) 0) + output_bit at period base (get_or s0 (j % count) 0)

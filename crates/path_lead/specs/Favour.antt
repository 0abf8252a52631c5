-- What is received of a frame: at each step four branch metrics that favour the pair that was sent. Definitions only.
use Rattle.std.specs.Prelude.{ℕ, ◌+◌, ◌*◌, ◌-◌, ◌<◌, ◌≤◌, true, false, List, T, get_or, pos, negsuc, Float}
use Rattle.std.specs.Float.{nan, fin, binary32}
use Rattle.std.specs.Float.Ieee.{le}
use Rattle.ieee.specs.Value.{hi, lo, Num}
use Rattle.ieee.specs.Rounding.{pow2}
use Rattle.trellis.specs.Code.{state_at}
use Rattle.trellis.specs.Isdb

-- by how much the metric of the sent pair exceeds that of its complement, at least
abbrev pub margin : ℕ
margin = 7

-- 0.0, 16.5 and -16.5
abbrev pub none : Float
none = fin false 0 (pos 0)

abbrev pub most : Float
most = fin false 33 (negsuc 0)

abbrev pub least : Float
least = fin true 33 (negsuc 0)

-- x is at least n above y, exactly: the value of a float is hi - lo units of 2 ^ -149
abbrev pub Above : ℕ → Float → Float → Type 0
Above n x y = hi binary32 y + lo binary32 x + n * pow2 149 ≤ hi binary32 x + lo binary32 y

-- the four metrics m (index 2 X + Y) are finite f32 from -16.5 to 16.5, that of the pair c is the greatest, at least 0, and clearly above that of the complement
pub record Favour (m : List Float) (c : ℕ) : Type 0 where
  pub numbers : (l : ℕ) → l < 4 → Num binary32 (get_or m l nan)
  pub from : (l : ℕ) → l < 4 → T (le least (get_or m l nan))
  pub best : (l : ℕ) → l < 4 → T (le (get_or m l nan) (get_or m c nan))
  pub plus : T (le none (get_or m c nan))
  pub to : T (le (get_or m c nan) most)
  pub clear : Above margin (get_or m c nan) (get_or m (3 - c) nan)

-- step i of the first n favours the pair that the encoder sends for input i of us, from the state s
pub record Favours (s : ℕ) (us : List ℕ) (ms : ℕ → List Float) (n : ℕ) : Type 0 where
  pub start : s < 64
  pub bits : (i : ℕ) → i < n → get_or us i 0 < 2
  pub steps : (i : ℕ) → i < n → Favour (ms i) (Isdb.labels (get_or us i 0) (state_at 32 s us i))

-- ---- the rounding loss, in units of 2 ^ -15
-- In a window of 64 steps, up to the subtraction of the maximum, a step loses two half units in the last place of the sent path's value: 2 while that
-- is below 1,024, which it is for 62 steps, and 4 after that. So a window loses 132; this is the loss of w windows and k steps.
abbrev pub loss : ℕ → ℕ → ℕ
loss w k = 132 * w + 2 * k + 2 * (k - 62)

-- the windows of the longest frame, the last one begun
abbrev pub windows : ℕ
windows = 1066

-- the loss over the longest frame, 132 in each window: 4.2942 of the margin
abbrev pub frame_loss : ℕ
frame_loss = 140712

-- what is left of the lead after w windows and k steps
abbrev pub left : ℕ → ℕ → ℕ
left w k = margin * 32768 - loss w k

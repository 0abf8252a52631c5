-- A convolutional code of rate 1/2, as a shift register with taps.
use Rattle.std.specs.Prelude.{ℕ, zero, suc, ◌+◌, ◌-◌, ◌*◌, ◌/◌, ◌%◌, ◌^◌, List, get_or}

-- the constraint length and the two generators, whose top bit is the tap of the undelayed input
pub record Code : Type 0 where
  pub constraint : ℕ
  pub g1 : ℕ
  pub g2 : ℕ

-- the inner code of every ISDB system: constraint length 7, generators 171 (X) and 133 (Y) octal (document 01; the Rust cites ITU-R BO.1408-1, section 9, Fig. 13, and ARIB STD-B31,
-- section 3.8, Fig. 3-10)
abbrev pub isdb : Code
isdb = record { constraint = 7; g1 = 0o171; g2 = 0o133 }

-- half the number of states, 2 ^ (constraint - 2)
abbrev pub half : Code → ℕ
half c = 2 ^ (c.constraint - 2)

-- a bit of a number, counted from the top bit of constraint - 1 bits and one more: position 0 is the input, position i is stage i.
-- Of a state s it is what stage i holds, the input i steps ago; of a generator it is the tap there.
abbrev pub stage : Code → ℕ → ℕ → ℕ
stage c s i = s / 2 ^ (c.constraint - 1 - i) % 2

-- the sum of the stages 1 to n of the state s that the generator g taps
unfoldable pub tapped : Code → ℕ → ℕ → ℕ → ℕ
tapped c g s zero = 0
tapped c g s (suc n) = tapped c g s n + stage c g (suc n) * stage c s (suc n)

-- the output of the generator g for the input u at the state s: the modulo-2 sum of the tapped input and stages
unfoldable pub output : Code → ℕ → ℕ → ℕ → ℕ
output c g u s = (stage c g 0 * u + tapped c g s (c.constraint - 1)) % 2

-- 2 X + Y
unfoldable pub label : Code → ℕ → ℕ → ℕ
label c u s = 2 * output c c.g1 u s + output c c.g2 u s

-- the register moves by one: the input enters at the top, the oldest bit leaves. `moved h u s` is the next state where h is half the states
abbrev pub moved : ℕ → ℕ → ℕ → ℕ
moved h u s = h * u + s / 2

-- the state after n of the inputs us, from the state s
unfoldable pub state_at : ℕ → ℕ → List ℕ → ℕ → ℕ
state_at h s us zero = s
state_at h s us (suc n) = moved h (get_or us n 0) (state_at h s us n)

-- the coded pair 2 X + Y of each step of encoding the inputs us from the state s, where `out` is that of a branch
abbrev pub label_at : ℕ → (ℕ → ℕ → ℕ) → ℕ → List ℕ → ℕ → ℕ
label_at h out s us k = out (get_or us k 0) (state_at h s us k)

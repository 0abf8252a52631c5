-- Whole periods by the combination.
use Rattle.std.specs.Prelude.{◌≡◌, cond, List, ℕ, ◌+◌, ◌-◌, ◌*◌, ◌/◌, ◌%◌, ◌<◌, ◌≤◌, ltb, length, get_or, take, drop, Float}
use Rattle.std.proofs.Common.{arith, lit≤, lit<, get_or-drop}
use Rattle.std.specs.Float.{nan, binary32}
use Rattle.std.specs.Float.Ieee.{of_bits}
use Rattle.isdbs_combination.specs.declared.Combination.{Combination}
use Rattle.isdbs_combination.specs.declared.Combination.TheVariants.{Bpsk1_2, Qpsk1_2, Qpsk2_3, Qpsk3_4, Qpsk5_6, Qpsk7_8, Tc8psk2_3}
use Rattle.isdbs_points.specs.Layout.{order_of, steps_per_period, sent_order}
use Rattle.trellis.specs.Lists.{first_place}
use Rattle.isdbs_metrics.specs.FrameRunLaws.{tail_is}
use Rattle.decode_block.specs.Blocks.{Periods, period_soft, spread_soft}

-- a period is short
pub short : (c : Combination) → (length (order_of c) ≤ 8) × (steps_per_period c ≤ 7) × (0 < steps_per_period c)
unfolding sent_order
short Bpsk1_2 = (lit≤ tt, lit≤ tt, lit< tt)
short Qpsk1_2 = (lit≤ tt, lit≤ tt, lit< tt)
short Qpsk2_3 = (lit≤ tt, lit≤ tt, lit< tt)
short Qpsk3_4 = (lit≤ tt, lit≤ tt, lit< tt)
short Qpsk5_6 = (lit≤ tt, lit≤ tt, lit< tt)
short Qpsk7_8 = (lit≤ tt, lit≤ tt, lit< tt)
short Tc8psk2_3 = (lit≤ tt, lit≤ tt, lit< tt)

pub one_more : (c : Combination) (t : ℕ) → (t * length (order_of c) + length (order_of c) ≡ (t + 1) * length (order_of c)) × (t * (2 * steps_per_period c) + 2 * steps_per_period c ≡ (t + 1) * (2 * steps_per_period c))
unfolding sent_order
one_more Bpsk1_2 t = (omega arith, omega arith)
one_more Qpsk1_2 t = (omega arith, omega arith)
one_more Qpsk2_3 t = (omega arith, omega arith)
one_more Qpsk3_4 t = (omega arith, omega arith)
one_more Qpsk5_6 t = (omega arith, omega arith)
one_more Qpsk7_8 t = (omega arith, omega arith)
one_more Tc8psk2_3 t = (omega arith, omega arith)

pub more_periods : (c : Combination) (a b : ℕ) → Periods c a → Periods c b → Periods c (a + b)
more_periods Bpsk1_2 a b p q = omega arith
more_periods Qpsk1_2 a b p q = omega arith
more_periods Qpsk2_3 a b p q = omega arith
more_periods Qpsk3_4 a b p q = omega arith
more_periods Qpsk5_6 a b p q = omega arith
more_periods Qpsk7_8 a b p q = omega arith
more_periods Tc8psk2_3 a b p q = omega arith

-- mother bit a of period t
pub place_at : (c : Combination) (t a : ℕ) → a < 2 * steps_per_period c
    → (2 * ((t * (2 * steps_per_period c) + a) / 2 % steps_per_period c) + (t * (2 * steps_per_period c) + a) % 2 ≡ a) × ((t * (2 * steps_per_period c) + a) / 2 / steps_per_period c ≡ t)
place_at Bpsk1_2 t a h = (omega arith, omega arith)
place_at Qpsk1_2 t a h = (omega arith, omega arith)
place_at Qpsk2_3 t a h = (omega arith, omega arith)
place_at Qpsk3_4 t a h = (omega arith, omega arith)
place_at Qpsk5_6 t a h = (omega arith, omega arith)
place_at Qpsk7_8 t a h = (omega arith, omega arith)
place_at Tc8psk2_3 t a h = (omega arith, omega arith)

pub spread_at : (c : Combination) (softs : List Float) (from to t a : ℕ) → from ≡ t * length (order_of c) → to ≡ t * (2 * steps_per_period c) → a < 2 * steps_per_period c
    → period_soft c (take (length softs - from) (drop from softs)) a ≡ spread_soft c softs (to + a)
spread_at c softs from to t a ef et h =
    let q = place_at c t a h in
    rw (tail_is from softs, get_or-drop from softs (first_place a (order_of c)) nan, et, q.0, q.1, ef)

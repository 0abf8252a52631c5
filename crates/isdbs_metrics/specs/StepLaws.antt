-- The points that a step reads, and the places of a period.
use Rattle.std.specs.Prelude.{◌≡◌, ℕ, ◌+◌, ◌*◌, ◌/◌, ◌%◌, ◌<◌, ◌≤◌, length}
use Rattle.std.proofs.Common.{arith}
use Rattle.isdbs_combination.specs.declared.Combination.{Combination}
use Rattle.isdbs_combination.specs.declared.Combination.TheVariants.{Bpsk1_2, Qpsk1_2, Qpsk2_3, Qpsk3_4, Qpsk5_6, Qpsk7_8, Tc8psk2_3}
use Rattle.isdbs_combination.specs.declared.Modulation.TheVariants.{Tc8psk}
use Rattle.isdbs_combination.specs.Combinations.{modulation_of}
use Rattle.isdbs_points.specs.Layout.{order_of, steps_per_period, sent_order}
use Rattle.isdbs_metrics.specs.Steps.{Reaches}

pub tc8psk_reach : (c : Combination) (k n : ℕ) → modulation_of c ≡ Tc8psk → Reaches c k n → k < n
tc8psk_reach c k n e h = rw e at h

-- ---- the places of a period
pub period_small : (c : Combination) (k : ℕ) → k % steps_per_period c < 7
period_small Bpsk1_2 k = omega arith
period_small Qpsk1_2 k = omega arith
period_small Qpsk2_3 k = omega arith
period_small Qpsk3_4 k = omega arith
period_small Qpsk5_6 k = omega arith
period_small Qpsk7_8 k = omega arith
period_small Tc8psk2_3 k = omega arith

pub place_small : (c : Combination) (k : ℕ) → k % steps_per_period c < steps_per_period c
place_small Bpsk1_2 k = omega arith
place_small Qpsk1_2 k = omega arith
place_small Qpsk2_3 k = omega arith
place_small Qpsk3_4 k = omega arith
place_small Qpsk5_6 k = omega arith
place_small Qpsk7_8 k = omega arith
place_small Tc8psk2_3 k = omega arith

-- the mother bits sent up to the end of step k's period are few
pub base_small : (c : Combination) (k : ℕ) → k / steps_per_period c * length (order_of c) + length (order_of c) ≤ 2 * k + 8
unfolding sent_order
base_small Bpsk1_2 k = omega arith
base_small Qpsk1_2 k = omega arith
base_small Qpsk2_3 k = omega arith
base_small Qpsk3_4 k = omega arith
base_small Qpsk5_6 k = omega arith
base_small Qpsk7_8 k = omega arith
base_small Tc8psk2_3 k = omega arith

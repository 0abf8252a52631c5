-- Soft values at scale 8 that speak for a coded bit, and those of the parts within the margins of BPSK and QPSK.
use Rattle.std.specs.Prelude.{◌≡◌, ◌⊎◌, false, ℕ, zero, suc, ◌<◌, negsuc, T, Float}
use Rattle.std.proofs.Common.{arith}
use Rattle.std.specs.Float.{fin, binary32}
use Rattle.std.specs.Float.Ieee.{neg, eq, le, mul, of_bits, round}
use Rattle.ieee.specs.Value.{Num}
use Rattle.trellis.specs.Step.{term}
use Rattle.isdbs_points.specs.Points.{one64, root64}
use Rattle.ieee.specs.Conversion.{rounded}
use Rattle.ieee_cast.specs.Soft.{soft_of}
use Rattle.margin_ends.specs.Ends.{low1, high1, low_root, high_root, eight}
use Rattle.margins.specs.Margins.{keeps}
use Rattle.margins.proofs.Clean.{between_inside}
use Rattle.margins.specs.Intervals.{Inside, Scaled}
use Rattle.margins.proofs.Intervals.{inside_neg, scaled_inside}

-- 5.4375 = 8 * 87/128 and 8.25 = 8 * 33/32
abbrev pub clearly : Float
clearly = fin false 87 (negsuc 3)

abbrev pub fully : Float
fully = fin false 33 (negsuc 1)

-- x is from 5.4375 to 8.25 for the bit 0, from -8.25 to -5.4375 for the bit 1
pub record Speaks (b : ℕ) (x : Float) : Type 0 where
  pub num : Num binary32 x
  pub inside : Inside clearly fully (term b x)

-- or it is 0, where the bit was not sent: "Erased soft values are 0"
abbrev pub Said : ℕ → Float → Type 0
Said b x = (x ≡ of_bits binary32 0) ⊎ Speaks b x

plus : {z : Float} → Scaled clearly fully z → Speaks 0 z
plus s = record { num = s.num; inside = s.inside }

minus : {z : Float} → Scaled (neg fully) (neg clearly) z → Speaks 1 z
unfolding neg
minus {z} s = record { num = s.num; inside = inside_neg (neg fully) (neg clearly) z s.inside }

pub one_speaks : (b : ℕ) (x : Float) → b < 2 → T (keeps (term b one64) x) → Speaks b (mul binary32 (soft_of x) eight)
unfolding keeps eq neg le of_bits soft_of rounded mul round
one_speaks zero x h t = plus (scaled_inside low1 high1 clearly fully x tt tt tt tt tt tt tt tt (between_inside low1 high1 x t))
one_speaks (suc zero) x h t = minus (scaled_inside (neg high1) (neg low1) (neg fully) (neg clearly) x tt tt tt tt tt tt tt tt (between_inside (neg high1) (neg low1) x t))
one_speaks (suc (suc b)) x h t = absurd (omega arith)

pub root_speaks : (b : ℕ) (x : Float) → b < 2 → T (keeps (term b root64) x) → Speaks b (mul binary32 (soft_of x) eight)
unfolding keeps eq neg le of_bits soft_of rounded mul round
root_speaks zero x h t = plus (scaled_inside low_root high_root clearly fully x tt tt tt tt tt tt tt tt (between_inside low_root high_root x t))
root_speaks (suc zero) x h t = minus (scaled_inside (neg high_root) (neg low_root) (neg fully) (neg clearly) x tt tt tt tt tt tt tt tt (between_inside (neg high_root) (neg low_root) x t))
root_speaks (suc (suc b)) x h t = absurd (omega arith)

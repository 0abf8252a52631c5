-- Fresh decoders keep the bounds: 0 at the start state and -1,000,000 elsewhere, or 0 everywhere.
use Rattle.std.specs.Prelude.{◌≡◌, refl, List, eqb, get_or, length}
use Rattle.std.proofs.Math.Bool.{cond}
use Prim.Native.Nat.{ℕ, ◌-◌, ◌*◌, ◌%◌, ◌<◌}
use Rattle.std.proofs.Common.{arith, lit<}
use Rattle.std.proofs.Math.Dec.{eqb_refl}
use Rattle.std.specs.Float.Ieee.{Float, nan, binary32, fits, of_bits}
use Rattle.ieee.specs.Value.{hi, lo, Num}
use Rattle.ieee.specs.Rounding.{pow2, pow2_add}
use Rattle.trellis.specs.ListLaws.{length_upto, get_d_upto}
use Rattle.path_lead.specs.Ties.{pick, true_of}
use Rattle.trellis.specs.Run.{start_at, start_unknown}
use Rattle.range_paths.specs.Bounds.{U, Above, above_more, Within, wider}
use Rattle.range_paths.specs.Steps.{zero_within}
use Rattle.range_paths.specs.Invariant.{Limits, depth, Bounded}
use Rattle.range_paths.proofs.Invariant.{depth_least}
use Rattle.path_lead.proofs.Window.{far_num}

-- the bounds hold where no value is above 0 or below -512 B, and one is 0
pub level : {c B : ℕ} (pm : List Float) → length pm ≡ 64 → ((s : ℕ) → s < 64 → Within (get_or pm s nan) B 0) → (b : ℕ) → b < 64 → Above (get_or pm b nan) 0 → Bounded c B 0 0 pm
level {c} {B} pm e all b h a = record {
  count = e;
  num = λ s l. (all s l).num;
  high = λ s l. (all s l).high;
  best = b;
  best_under = h;
  best_above = a;
  seed = λ i. b;
  seed_under = λ i. h;
  reach = λ i g s l w. let d = depth_least c B i in above_more (get_or pm s nan) B (depth c B i - 0) (omega arith) (all s l).low;
}

-- -1,000,000 is within 1,954 times 512
far_is : (hi binary32 (of_bits binary32 0xc974_2400) ≡ 0) × (lo binary32 (of_bits binary32 0xc974_2400) ≡ 1000000 * pow2 149)
unfolding hi lo pow2 of_bits
far_is = (refl, refl)

far_within : Within (of_bits binary32 0xc974_2400) 1954 0
far_within = let v = far_is in let e : U ≡ 512 * pow2 149 = pow2_add 9 149 in record { num = far_num; low = omega arith; high = omega arith }

module _ {c d B : ℕ} (r : Limits c d B) where
  zero_in : Within (of_bits binary32 0) B 0
  zero_in = wider (of_bits binary32 0) 0 0 B 0 (omega arith) (omega arith) zero_within

  far_in : Within (of_bits binary32 0xc974_2400) B 0
  far_in = wider (of_bits binary32 0xc974_2400) 1954 0 B 0 r.start (omega arith) far_within

  pub given_bounded : (s : ℕ) → Bounded c B 0 0 (start_at 64 s)
  unfolding start_at
  given_bounded s =
      level (start_at 64 s) (length_upto start 64)
      (λ k h. rw (get_d_upto start nan 64 k h) (pick (λ z. Within z B 0) (eqb k (s % 64)) (of_bits binary32 0) (of_bits binary32 0xc974_2400) zero_in far_in))
      (s % 64) (omega arith)
      (rw (get_d_upto start nan 64 (s % 64) (omega arith), true_of (eqb (s % 64) (s % 64)) (eqb_refl (s % 64))) zero_within.low)
    where
      start : ℕ → Float
      start k = cond (eqb k (s % 64)) (of_bits binary32 0) (of_bits binary32 0xc974_2400)

  pub unknown_bounded : Bounded c B 0 0 (start_unknown 64)
  unfolding start_unknown
  unknown_bounded =
      level (start_unknown 64) (length_upto (λ k. of_bits binary32 0) 64)
      (λ k h. rw (get_d_upto (λ k. of_bits binary32 0) nan 64 k h) zero_in)
      0 (lit< tt) (rw (get_d_upto (λ k. of_bits binary32 0) nan 64 0 (lit< tt)) zero_within.low)

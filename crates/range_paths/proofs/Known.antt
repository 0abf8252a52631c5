-- A known bit after a subtraction of the maximum: the step adds nothing, the states that the bit rules out become -1.0e9, and the best state leads to one that is
-- kept. So the bounds stay as they are, where they have room for -1.0e9.
use Rattle.std.specs.Prelude.{◌≡◌, refl, List, eqb, get_or, Float}
use Rattle.std.proofs.Math.Bool.{cond}
use Prim.Native.Nat.{ℕ, zero, suc, ◌+◌, ◌-◌, ◌*◌, ◌/◌, ◌%◌, ◌<◌, ◌≤◌}
use Rattle.std.proofs.Common.{arith, lit≤}
use Rattle.std.proofs.Math.Dec.{eqb_refl}
use Rattle.std.specs.Float.Ieee.{nan, binary32, fits, of_bits}
use Rattle.ieee.specs.Value.{hi, lo, Num}
use Rattle.ieee.specs.Rounding.{pow2}
use Rattle.trellis.specs.ListLaws.{length_upto, get_d_upto}
use Rattle.path_lead.specs.Ties.{pick, true_of}
use Rattle.trellis.specs.Step.{known, Tie, nexts, ruled}
use Rattle.range_paths.specs.Bounds.{U, most, Above, Below, above_more, Within, ruled_out}
use Rattle.range_paths.specs.Steps.{known_moves, nexts_within, nexts_above}
use Rattle.range_paths.specs.Reach.{Reach}
use Rattle.range_paths.specs.Invariant.{Limits, depth, Bounded, led}
use Rattle.range_paths.proofs.Invariant.{depth_least, depth_most, bounded_within, led_under}
use Rattle.path_lead.proofs.Known.{out_num}

-- -1.0e9 is so many times -512
ruled_is : (hi binary32 (of_bits binary32 0xce6e_6b28) ≡ 0) × (lo binary32 (of_bits binary32 0xce6e_6b28) ≡ ruled_out * U)
unfolding hi lo pow2 of_bits
ruled_is = (refl, refl)

ruled_within : Within (of_bits binary32 0xce6e_6b28) ruled_out 0
ruled_within = let v = ruled_is in record { num = out_num; low = omega arith; high = omega arith }

module _ {c d B : ℕ} (r : Limits c d B) (deep : ruled_out ≤ B) (out : ℕ → ℕ → ℕ) (labels : (u s : ℕ) → u < 2 → s < 64 → out u s < 4) (t : Tie) (pm : List Float) (b : ℕ) (i : Bounded c B 0 0 pm) where
  abbrev new : List Float
  new = nexts 32 out t pm (known b)

  A : B + 12 * c - 0 + 0 ≤ most
  A = let f = r.fits in omega arith

  all : (s : ℕ) → s < 64 → Within (get_or new s nan) (B + 12 * c - 0 + 0) (0 + 0)
  all = nexts_within out labels t pm (known b) (B + 12 * c - 0) 0 0 A (lit≤ tt) (bounded_within i) (known_moves b)

  above : (s e q : ℕ) → s < 64 → e < 2 → q + 0 ≤ most → Above (get_or pm (2 * (s % 32) + e) nan) q → Above (get_or new s nan) (q + 0)
  above = nexts_above out labels t pm (known b) (B + 12 * c - 0) 0 0 A (lit≤ tt) (bounded_within i) (known_moves b)

  ruled_at_lem : (s : ℕ) → s < 64 → get_or (ruled 32 b new) s nan ≡ cond (eqb (s / 32) (b % 2)) (get_or new s nan) (of_bits binary32 0xce6e_6b28)
  unfolding ruled
  ruled_at_lem s h = get_d_upto (λ k. cond (eqb (k / 32) (b % 2)) (get_or new k nan) (of_bits binary32 0xce6e_6b28)) nan 64 s h

  -- what holds of the new value and of -1.0e9
  ruled_pick : (P : Float → Type 0) (s : ℕ) → s < 64 → P (get_or new s nan) → P (of_bits binary32 0xce6e_6b28) → P (get_or (ruled 32 b new) s nan)
  ruled_pick P s h p q = rw (ruled_at_lem s h) (pick P (eqb (s / 32) (b % 2)) (get_or new s nan) (of_bits binary32 0xce6e_6b28) p q)

  low_all : (q s : ℕ) → s < 64 → B ≤ q → Above (get_or new s nan) q → Above (get_or (ruled 32 b new) s nan) q
  low_all q s h k w = ruled_pick (λ z. Above z q) s h w (above_more (of_bits binary32 0xce6e_6b28) ruled_out q (omega arith) ruled_within.low)

  -- where the best state goes
  abbrev kept : ℕ
  kept = 32 * (b % 2) + i.best / 2

  kept_under : kept < 64
  kept_under = let u = i.best_under in omega arith

  kept_above : Above (get_or (ruled 32 b new) kept nan) 0
  kept_above =
      let u = i.best_under in
      let e : 2 * (kept % 32) + i.best % 2 ≡ i.best = omega arith in
      let h : kept / 32 ≡ b % 2 = omega arith in
      rw (ruled_at_lem kept kept_under, h, true_of (eqb (b % 2) (b % 2)) (eqb_refl (b % 2)))
      (above kept (i.best % 2) 0 kept_under (omega arith) (lit≤ tt) (rw e i.best_above))

  reached : (k : ℕ) → k ≤ 6 → (s : ℕ) → s < 64 → Reach k (led kept i.seed k) s → Above (get_or (ruled 32 b new) s nan) (depth c B k - 0)
  unfolding Reach depth
  reached zero h s l e = rw e (above_more (get_or (ruled 32 b new) kept nan) 0 (B - 0) (omega arith) kept_above)
  reached (suc k) h s l e =
      let f = r.fits in
      let p = depth_least c B k in
      let p' = depth_most c B k (omega arith) in
      low_all (depth c B k + 2 * c - 0) s l (omega arith)
      (above_more (get_or new s nan) (depth c B k - 0 + 0) (depth c B k + 2 * c - 0) (omega arith)
      (above s e.0 (depth c B k - 0) l e.1 (omega arith) (i.reach k (omega arith) (2 * (s % 32) + e.0) (omega arith) e.2)))

  pub known_bounded : Bounded c B 0 0 (ruled 32 b new)
  unfolding ruled
  known_bounded = record {
    count = length_upto (λ k. cond (eqb (k / 32) (b % 2)) (get_or new k nan) (of_bits binary32 0xce6e_6b28)) 64;
    num = λ s h. ruled_pick (λ z. Num binary32 z) s h (all s h).num ruled_within.num;
    high = λ s h. ruled_pick (λ z. Below z 0) s h (all s h).high ruled_within.high;
    best = kept;
    best_under = kept_under;
    best_above = kept_above;
    seed = led kept i.seed;
    seed_under = led_under kept i.seed kept_under i.seed_under;
    reach = reached;
  }

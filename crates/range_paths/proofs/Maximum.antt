-- The maximum is one of the path values and none is above it. Subtracted, it leaves a best value of 0 and no value above it, and every bound from below
-- falls by the drift alone.
use Rattle.std.specs.Prelude.{◌≡◌, Bool, not, List, T, length, Float}
use Rattle.std.proofs.Math.Path.{refl, ap}
use Rattle.std.proofs.Common.{◌∙◌, mul-le-mul_right, lit<, lit≤, pow_mono}
use Rattle.std.proofs.Math.Bool.{true, false, cond}
use Prim.Native.Nat.{ℕ, zero, suc, ◌+◌, ◌-◌, ◌*◌, ◌<◌, ◌≤◌}
use native.Mathlib.Omega.{arith}
use Rattle.std.proofs.Math.ListN.{get_or}
use Rattle.std.proofs.lemmas.List.{length-map}
use Rattle.std.specs.Float.Ieee.{nan, binary32, sub, lt, fits, of_bits}
use borrow.Author.Count.{below_more}
use Rattle.ieee.specs.Value.{hi, lo, Num}
use Rattle.ieee.specs.Order.{Le, Lt, lt→value, not-lt→value, value→lt}
use Rattle.ieee.specs.Rounding.{pow2, pow2_pos}
use Rattle.path_lead.specs.Ties.{true_of}
use Rattle.path_lead.proofs.Maximum.{get_d_renormalised}
use Rattle.trellis.specs.Step.{top, renormalised}
use Rattle.range_paths.specs.Bounds as bounds
use Rattle.range_paths.specs.Bounds.{U, most, above_more, Within, Takes}
use Rattle.range_paths.specs.Invariant.{Limits, depth, Bounded}
use Rattle.range_paths.proofs.Invariant.{depth_least, depth_most, bounded_within}

-- ---- the least finite f32, where the search for the maximum starts
abbrev least : Float
least = of_bits binary32 0xff7f_ffff

least_num : Num binary32 least
unfolding fits of_bits
least_num = record { fin_x = tt; fits_x = tt }

least_is : (hi binary32 least ≡ 0) × (lo binary32 least ≡ 16777215 * pow2 253)
unfolding hi lo pow2 of_bits
least_is = (refl, refl)

far : 2 * U ≤ pow2 253
unfolding pow2
far = pow_mono {i = 159} {j = 253} (lit≤ tt)

least_below : (x : Float) (a b : ℕ) → Within x a b → a ≤ most → T (lt least x)
least_below x a b w h =
    let p = mul-le-mul_right U h in
    let l = w.low in
    let f = far in
    let c = least_is in
    let o = pow2_pos 158 in
    value→lt binary32 least x least_num w.num (omega arith)

-- ---- the greatest of the first values is one of them, and none of them is above it
module _ (pm : List Float) (a b : ℕ) (few : a ≤ most) (all : (s : ℕ) → s < 64 → Within (get_or pm s nan) a b) where
  pub record Top (i : ℕ) : Type 0 where
    pub at : ℕ
    pub under : at < 64
    pub is : top pm (suc i) ≡ get_or pm at nan
    pub over : (s : ℕ) → s < suc i → Le binary32 (get_or pm s nan) (get_or pm at nan)

  top_more : (i : ℕ) → suc i < 64 → Top i → Top (suc i)
  unfolding top
  top_more i h r =
      let y = get_or pm r.at nan in
      let x = get_or pm (suc i) nan in
      go (lt y x) refl (lt→value binary32 y x (all r.at r.under).num (all (suc i) h).num) (not-lt→value binary32 y x (all r.at r.under).num (all (suc i) h).num)
    where
      go : (w : Bool) → lt (get_or pm r.at nan) (get_or pm (suc i) nan) ≡ w → (T w → Lt binary32 (get_or pm r.at nan) (get_or pm (suc i) nan)) → (T (not w) → Le binary32 (get_or pm (suc i) nan) (get_or pm r.at nan)) → Top (suc i)
      go true e f g =
          let x = get_or pm (suc i) nan in
          let q = f tt in
          record {
            at = suc i;
            under = h;
            is = ap (λ (y : Float). cond (lt y x) x y) r.is ∙ ap (λ (w : Bool). cond w x (get_or pm r.at nan)) e;
            over = λ s l. below_more (λ j. Le binary32 (get_or pm j nan) x) (suc i) (λ j hj. let o = r.over j hj in omega arith) (omega arith) s (omega arith);
          }
      go false e f g =
          let x = get_or pm (suc i) nan in
          record {
            at = r.at;
            under = r.under;
            is = ap (λ (y : Float). cond (lt y x) x y) r.is ∙ ap (λ (w : Bool). cond w x (get_or pm r.at nan)) e;
            over = λ s l. below_more (λ j. Le binary32 (get_or pm j nan) (get_or pm r.at nan)) (suc i) r.over (g tt) s (omega arith);
          }

  pub top_is : (i : ℕ) → i < 64 → Top i
  unfolding top
  top_is zero h = record {
    at = 0;
    under = h;
    is = ap (λ (w : Bool). cond w (get_or pm 0 nan) least) (true_of (lt least (get_or pm 0 nan)) (least_below (get_or pm 0 nan) a b (all 0 h) few));
    over = λ s l. let e : s ≡ 0 = omega arith in rw e (omega arith);
  }
  top_is (suc i) h = top_more i h (top_is i (omega arith))

-- ---- the maximum subtracted
renormalised_count : (pm : List Float) → length (renormalised 32 pm) ≡ length pm
unfolding renormalised
renormalised_count pm = length-map pm (λ x. sub binary32 x (top pm 64))

module _ {c d B : ℕ} (r : Limits c d B) (pm : List Float) (J : ℕ) {D : ℕ} (few : J ≤ 64 * c) (i : Bounded c B J D pm) where
  A : B + 12 * c - J ≤ most
  A = let f = r.fits in omega arith

  H : J ≤ most
  H = let f = r.fits in let w = r.wide in omega arith

  greatest : Top pm (B + 12 * c - J) J A (bounded_within i) 63
  greatest = top_is pm (B + 12 * c - J) J A (bounded_within i) 63 (lit< tt)

  less : (s : ℕ) → s < 64 → Takes (get_or pm s nan) (get_or pm greatest.at nan) (get_or (renormalised 32 pm) s nan) J
  less s h =
      rw (get_d_renormalised pm s, greatest.is)
      (bounds.takes (get_or pm s nan) (get_or pm greatest.at nan) (B + 12 * c - J) J J (bounded_within i s h) (bounded_within i greatest.at greatest.under) A H H (greatest.over s h))

  pub renormalised_bounded : Bounded c B 0 0 (renormalised 32 pm)
  renormalised_bounded = record {
    count = renormalised_count pm ∙ i.count;
    num = λ s h. (less s h).num;
    high = λ s h. (less s h).high;
    best = greatest.at;
    best_under = greatest.under;
    best_above = (less greatest.at greatest.under).same (omega arith);
    seed = i.seed;
    seed_under = i.seed_under;
    reach = λ k l s h e.
        let p = depth_least c B k in
        let p' = depth_most c B k l in
        let w = r.wide in
        let f = r.fits in
        above_more (get_or (renormalised 32 pm) s nan) (depth c B k - J + J) (depth c B k - 0) (omega arith) ((less s h).low (depth c B k - J) (omega arith) (i.reach k l s h e));
  }

-- The path values between two subtractions of the maximum. After steps that add at most 512 J in sum, and take at most 512 D from the best, no value is above 512 J, the
-- best is not below -512 D, and for each i the states that i steps lead to from some state are not further down than `depth i`, less the drift. Six steps lead anywhere: so no value is
-- below -512 (B + 12 c), however many steps there are.
use Rattle.std.specs.Prelude.{◌≡◌, List, get_or, Float}
use Rattle.std.proofs.Common.{subst, zero-mul, suc-mul, mul-le-mul_right, arith, lit≤}
use Prim.Native.Nat.{ℕ, zero, suc, ◌+◌, ◌-◌, ◌*◌, ◌/◌, ◌%◌, ◌<◌, ◌≤◌}
use Rattle.std.specs.Float.{nan}
use Rattle.trellis.specs.ListLaws.{length_upto}
use Rattle.trellis.specs.Step.{Step, Tie, next, nexts}
use Rattle.range_paths.specs.Bounds.{most, Above, above_more, Within}
use Rattle.range_paths.specs.Steps.{Moves, Falls, nexts_within, nexts_above, nexts_from}
use Rattle.range_paths.specs.Reach.{Reach, anywhere}
use Rattle.range_paths.specs.Invariant.{Bounded, Limits, depth, led}

pub depth_least : (c B i : ℕ) → B ≤ depth c B i
unfolding depth
depth_least c B zero = omega arith
depth_least c B (suc i) = omega (arith, depth_least c B i)

pub depth_six : (c B : ℕ) → depth c B 6 ≡ B + 12 * c
unfolding depth
depth_six c B = omega arith

depth_is : (c B i : ℕ) → depth c B i ≡ B + i * (2 * c)
unfolding depth
depth_is c B zero = let z = zero-mul (2 * c) in omega arith
depth_is c B (suc i) = let e = suc-mul i (2 * c) in omega (arith, depth_is c B i)

pub depth_most : (c B i : ℕ) → i ≤ 6 → depth c B i ≤ B + 12 * c
depth_most c B i h = let m = mul-le-mul_right (2 * c) h in omega (arith, depth_is c B i)

pub same_bounds : {c B J J' D D' : ℕ} {pm : List Float} → J ≡ J' → D ≡ D' → Bounded c B J D pm → Bounded c B J' D' pm
same_bounds {c} {B} {J} {J'} {D} {D'} {pm} e f i = subst (λ (j : ℕ). Bounded c B j D' pm) e (subst (λ (j : ℕ). Bounded c B J j pm) f i)

-- the range of all values
pub bounded_within : {c B J D : ℕ} {pm : List Float} → Bounded c B J D pm → (s : ℕ) → s < 64 → Within (get_or pm s nan) (B + 12 * c - J) J
bounded_within {c} {B} {J} {D} {pm} i s h = record {
  num = i.num s h;
  low = subst (λ (d : ℕ). Above (get_or pm s nan) (d - J)) (depth_six c B) (i.reach 6 (lit≤ tt) s h (anywhere (i.seed 6) (i.seed_under 6) s h));
  high = i.high s h;
}

pub led_under : (b : ℕ) (f : ℕ → ℕ) → b < 64 → ((i : ℕ) → f i < 64) → (i : ℕ) → led b f i < 64
led_under b f h k zero = h
led_under b f h k (suc i) = k i

-- ---- one step
module _ {c d B : ℕ} (r : Limits c d B) (out : ℕ → ℕ → ℕ) (labels : (u s : ℕ) → u < 2 → s < 64 → out u s < 4) (t : Tie) (pm : List Float) (x : Step) (m : Moves c x)
    (falls : (s : ℕ) → s < 64 → Falls c d out x s) (J D : ℕ) (few : J + c ≤ 64 * c) (slow : D + d ≤ 64 * d) (i : Bounded c B J D pm)
  where
    A : B + 12 * c - J + c ≤ most
    A = let f = r.fits in omega arith

    H : J + c ≤ most
    H = let f = r.fits in let w = r.wide in omega arith

    all : (s : ℕ) → s < 64 → Within (get_or (nexts 32 out t pm x) s nan) (B + 12 * c - J + c) (J + c)
    all = nexts_within out labels t pm x (B + 12 * c - J) J c A H (bounded_within i) m

    above : (s e q : ℕ) → s < 64 → e < 2 → q + c ≤ most → Above (get_or pm (2 * (s % 32) + e) nan) q → Above (get_or (nexts 32 out t pm x) s nan) (q + c)
    above = nexts_above out labels t pm x (B + 12 * c - J) J c A H (bounded_within i) m

    -- the best state leads to one that is as good, less what the step takes
    fall : Falls c d out x i.best
    fall = falls i.best i.best_under

    abbrev kept : ℕ
    kept = 32 * fall.input + i.best / 2

    kept_under : kept < 64
    kept_under = let u = i.best_under in let v = fall.under in omega arith

    first : Above (get_or (nexts 32 out t pm x) kept nan) (D + d)
    first =
        let u = i.best_under in
        let v = fall.under in
        let w = r.wide in
        let g = r.fits in
        let e : 2 * (kept % 32) + i.best % 2 ≡ i.best = omega arith in
        let h : kept / 32 ≡ fall.input = omega arith in
        nexts_from out labels t pm x (B + 12 * c - J) J c A H (bounded_within i) m kept (i.best % 2) (D + d) kept_under (omega arith)
        (rw (e, h) (fall.by (get_or pm i.best nan) (B + 12 * c - J) J D (bounded_within i i.best u) A H (omega arith) i.best_above))

    reached : (k : ℕ) → k ≤ 6 → (s : ℕ) → s < 64 → Reach k (led kept i.seed k) s → Above (get_or (nexts 32 out t pm x) s nan) (depth c B k - (J + c))
    unfolding Reach depth
    reached zero h s l e =
        let w = r.wide in
        rw e (above_more (get_or (nexts 32 out t pm x) kept nan) (D + d) (B - (J + c)) (omega arith) first)
    reached (suc k) h s l e =
        let w = r.wide in
        let g = r.fits in
        let p = depth_least c B k in
        let p' = depth_most c B k (omega arith) in
        above_more (get_or (nexts 32 out t pm x) s nan) (depth c B k - J + c) (depth c B k + 2 * c - (J + c)) (omega arith)
        (above s e.0 (depth c B k - J) l e.1 (omega arith) (i.reach k (omega arith) (2 * (s % 32) + e.0) (omega arith) e.2))

    pub step_bounded : Bounded c B (J + c) (D + d) (nexts 32 out t pm x)
    unfolding nexts
    step_bounded = record {
      count = length_upto (next 32 out t pm x) 64;
      num = λ s l. (all s l).num;
      high = λ s l. (all s l).high;
      best = kept;
      best_under = kept_under;
      best_above = first;
      seed = led kept i.seed;
      seed_under = led_under kept i.seed kept_under i.seed_under;
      reach = reached;
    }

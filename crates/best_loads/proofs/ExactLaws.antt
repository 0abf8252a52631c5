-- THE GRID HIDES LITTLE: no full load's exact sum of f32 metrics exceeds that of the best reading by more than two units of 2 ^ -20 a step.
use Rattle.std.specs.Prelude.{◌≡◌, Bool, true, false, cond, List, eqb, ℤ, pos, negsuc, neg_ℤ, ◌+ℤ◌, get_or, Float}
use Rattle.std.proofs.Common.{ap, mul-le-mul_right, pow_pos}
use Prim.Native.Nat.{ℕ, zero, suc, ◌+◌, ◌*◌, ◌/◌, ◌≤◌, ◌<◌}
use native.Mathlib.Omega.{arith}
use Rattle.std.specs.Float.{nan, binary32}
use Rattle.ieee.specs.Value.{hi, lo}
use Rattle.ieee.specs.Whole.{hi_z, lo_z}
use Rattle.ieee.proofs.Whole.{parts}
use Rattle.trellis.specs.Code.{isdb, state_at}
use Rattle.trellis.proofs.RunLaws.{label_under}
use Rattle.path_greatest.specs.Viterbi.{Z, plus, Le}
use Rattle.path_greatest.proofs.Integers.{le_parts}
use Rattle.isdbs_combination.specs.declared.Modulation.{Modulation}
use Rattle.isdbs_combination.specs.declared.Modulation.TheVariants.{Bpsk, Qpsk, Tc8psk}
use Rattle.isdbs_combination.specs.Combinations.{modulation_of}
use Rattle.isdbs_tables.specs.declared.Table.{Table}
use Rattle.isdbs_tables.specs.Tables.{TableAccepted}
use Rattle.isdbs_plan.specs.RunsOf.{frame_steps}
use Rattle.isdbs_points.specs.Layout.{Segment, load_bit}
use Rattle.isdbs_points.specs.Frame.{inputs, label_at}
use Rattle.isdbs_points.specs.SizeLaws.{at_step_lem, find_step, step_fits}
use Rattle.isdbs_metrics.specs.Reading.{Received, metrics_by}
use Rattle.range_metrics.specs.Metrics.{Sized}
use Rattle.best_grid.specs.Grid.{unit, most, above, below, grid}
use Rattle.best_grid.proofs.GridLaws.{grid_parts, capped, cut}
use Rattle.best_sides.specs.FrameSides.{better_in}
use Rattle.best_sides.specs.FrameLaws.{frame_held}
use Rattle.best_loads.specs.Fit.{step_fit, fit_in, fit_at, fit_to, fit, Sent, BestReading}
use Rattle.best_loads.proofs.FitLaws.{metric_in}
use Rattle.best_loads.specs.Exact.{value, turned, step_exact, exact_in, exact_at, exact_to, exact}

-- ---- numbers: p is within k units u of the whole number z of units
module _ (u : ℕ) where
  record Near (z : ℤ) (p : Z) (k : ℕ) : Type 0 where
    from : hi_z z * u + p.1 ≤ lo_z z * u + p.0 + k * u
    to : lo_z z * u + p.0 ≤ hi_z z * u + p.1 + k * u

  times : (a b c d : ℕ) → a + b ≡ c + d → a * u + b * u ≡ c * u + d * u
  times a b c d e = let x : (a + b) * u ≡ (c + d) * u = ap (λ (n : ℕ). n * u) e in omega arith

  near_cut : (z : ℤ) (a b h l : ℕ) → hi_z z + b ≡ lo_z z + a → a * u ≤ h → h ≤ a * u + u → b * u ≤ l → l ≤ b * u + u → Near z (h, l) 1
  near_cut z a b h l e p q r s = let t = times (hi_z z) b (lo_z z) a e in record { from = omega arith; to = omega arith }

  near_turned : (z : ℤ) (p : Z) (k : ℕ) → Near z p k → Near (neg_ℤ z) (turned p) k
  near_turned (pos zero) p k n = let a = n.from in let b = n.to in record { from = omega arith; to = omega arith }
  near_turned (pos (suc m)) p k n = let a = n.from in let b = n.to in record { from = omega arith; to = omega arith }
  near_turned (negsuc m) p k n = let a = n.from in let b = n.to in record { from = omega arith; to = omega arith }

  near_add : (z w : ℤ) (p q : Z) (j k : ℕ) → Near z p j → Near w q k → Near (z +ℤ w) (plus p q) (j + k)
  near_add z w p q j k n m =
      let e = parts z w in
      let f : hi_z (z +ℤ w) + (lo_z z + lo_z w) ≡ lo_z (z +ℤ w) + (hi_z z + hi_z w) = omega arith in
      let x : (hi_z (z +ℤ w) + (lo_z z + lo_z w)) * u ≡ (lo_z (z +ℤ w) + (hi_z z + hi_z w)) * u = ap (λ (i : ℕ). i * u) f in
      let a = n.from in
      let b = n.to in
      let c = m.from in
      let d = m.to in
      record { from = omega arith; to = omega arith }

  near_none : Near (pos 0) (0, 0) 0
  near_none = record { from = omega arith; to = omega arith }

  -- two sums that are near whole numbers in order
  near_order : (z w : ℤ) (p q : Z) (k : ℕ) → hi_z z + lo_z w ≤ hi_z w + lo_z z → Near z p k → Near w q k → Le p (plus q (2 * (k * u), 0))
  near_order z w p q k h n m =
      let x = mul-le-mul_right u h in
      let a = n.to in
      let b = m.from in
      omega arith

-- ---- a metric
near_metric : (x : Float) → hi binary32 x / unit ≤ most → lo binary32 x / unit ≤ most → Near unit (grid x) (value x) 1
unfolding above below
near_metric x h l =
    let a = cut (hi binary32 x) unit (pow_pos 129) in
    let b = cut (lo binary32 x) unit (pow_pos 129) in
    let e = grid_parts x in
    near_cut unit (grid x) (hi binary32 x / unit) (lo binary32 x / unit) (hi binary32 x) (lo binary32 x) (rw (capped (hi binary32 x / unit) h, capped (lo binary32 x / unit) l) at e) a.0 a.1 b.0 b.1

near_step : (md : Modulation) (r : Received) (g : Segment) (k c2 l : ℕ) → (hi binary32 (get_or (metrics_by md r g k) l nan) / unit ≤ most) × (lo binary32 (get_or (metrics_by md r g k) l nan) / unit ≤ most)
    → Near unit (step_fit md r g k c2 l) (step_exact md r g k c2 l) 1
unfolding step_fit step_exact
near_step Bpsk r g k c2 l h = near_metric (get_or (metrics_by Bpsk r g k) l nan) h.0 h.1
near_step Qpsk r g k c2 l h = near_metric (get_or (metrics_by Qpsk r g k) l nan) h.0 h.1
near_step Tc8psk r g k c2 l h = go (eqb c2 (better_in r g k l)) (near_metric (get_or (metrics_by Tc8psk r g k) l nan) h.0 h.1)
  where
    x : Float
    x = get_or (metrics_by Tc8psk r g k) l nan

    go : (w : Bool) → Near unit (grid x) (value x) 1 → Near unit (cond w (grid x) (neg_ℤ (grid x))) (cond {A = Z} w (value x) (turned (value x))) 1
    go true n = n
    go false n = near_turned unit (grid x) (value x) 1 n

-- ---- a load
module _ (t : Table) (ok : TableAccepted t) (r : Received) (sized : Sized 16 6 r) (load : List ℕ) (s : ℕ) where
  near_at : (k : ℕ) → k < frame_steps t → Near unit (fit_at t r load s k) (exact_at t r load s k) 1
  unfolding fit_at exact_at
  near_at k h =
      let f = find_step t k h in
      let g = f.segment in
      let p = f.place in
      let pair = label_at s (inputs t load) in
      let l = pair (g.step + p) in
      let small = label_under isdb (get_or (inputs t load) (g.step + p) 0) (state_at 32 s (inputs t load) (g.step + p)) in
      let held = frame_held t ok r sized (g.step + p) l (step_fits t g f.member p f.small) small in
      let m = metric_in t r g f.member p l f.small small in
      rw (f.place_is, at_step_lem t (pos 0) (fit_in r load pair) g f.member p f.small, at_step_lem t (0, 0) (exact_in r load pair) g f.member p f.small)
      (near_step (modulation_of g.combination) r g p (load_bit load (g.bit + 2 * p)) l (rw m at held))

  near_to : (k : ℕ) → k ≤ frame_steps t → Near unit (fit_to t r load s k) (exact_to t r load s k) k
  unfolding fit_to exact_to
  near_to zero h = near_none unit
  near_to (suc k) h =
      let e : k + 1 ≡ suc k = omega arith in
      rw (← e) (near_add unit (fit_to t r load s k) (fit_at t r load s k) (exact_to t r load s k) (exact_at t r load s k) k 1 (near_to k (omega arith)) (near_at k h))

  near_fit : Near unit (fit t r load s) (exact t r load s) (frame_steps t)
  near_fit = near_to (frame_steps t) (omega arith)

-- THE THEOREM: a frame has at most 68,208 steps, so this is 0.13 at most
pub hides_little : (t : Table) → TableAccepted t → (r : Received) → Sized 16 6 r → (from : ℕ → Type 0) (load ls : List ℕ) → (b : BestReading t r from load ls) → (q : ℕ) (other : List ℕ) → Sent t from q other
    → Le (exact t r other q) (plus (exact t r load b.s) (2 * (frame_steps t * unit), 0))
hides_little t ok r sized from load ls b q other o =
    near_order unit (fit t r other q) (fit t r load b.s) (exact t r other q) (exact t r load b.s) (frame_steps t) (le_parts (fit t r other q) (fit t r load b.s) (b.best q other o))
    (near_fit t ok r sized other q) (near_fit t ok r sized load b.s)

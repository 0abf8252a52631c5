-- The metrics of an accepted frame are within 2 ^ 23, and those of its TC8PSK steps not below 0: what the best content asks; and the better C2 that a side holds.
use Rattle.std.specs.Prelude.{◌≡◌, refl, ◌⊎◌, Bool, true, cond, ℕ, zero, suc, ◌+◌, ◌*◌, ◌/◌, ◌%◌, ◌^◌, ◌≤◌, ◌<◌, leb, get_or, Float}
use Rattle.std.proofs.Math.Path.{ap, subst}
use Rattle.std.proofs.Common.{◌∙◌, inl, inr, arith, lit≤}
use mathlib.Core.List.{List, []}
use Rattle.std.proofs.Math.Nat.{div-le_of_le-mul}
use borrow.Author.Tests.{leb-true, le-leb}
use Rattle.std.specs.Float.{nan}
use Rattle.std.specs.Float.Ieee.{binary32, lt}
use Rattle.ieee.specs.Value.{hi, lo, one_side}
use Rattle.ieee.specs.Rounding.{pow2}
use Rattle.trellis.specs.ListLaws.{get_d_upto, bit_is}
use Rattle.trellis.specs.Run.{quadruple}
use Rattle.isdbs_combination.specs.declared.Modulation.{Modulation}
use Rattle.isdbs_combination.specs.declared.Modulation.TheVariants.{Bpsk, Qpsk, Tc8psk}
use Rattle.isdbs_combination.specs.Combinations.{modulation_of}
use Rattle.isdbs_tables.specs.declared.Table.{Table}
use Rattle.isdbs_tables.specs.Tables.{TableAccepted}
use Rattle.isdbs_plan.specs.RunsOf.{frame_steps}
use Rattle.isdbs_points.specs.Layout.{Segment, segments, In, at_step}
use Rattle.isdbs_points.specs.SizeLaws.{at_step_lem, find_step}
use Rattle.isdbs_metrics.specs.Reading.{Received, metrics_in, metrics_at, uncoded}
use Rattle.range_metrics.specs.Metrics.{Sized, metric_in, metrics_up}
use Rattle.range_metrics.specs.Rising.{Up}
use Rattle.best_grid.specs.Grid.{unit, most, below}
use Rattle.best_grid.proofs.HideLaws.{Held}
use Rattle.best_grid.proofs.GridLaws.{none_capped}
use Rattle.best_grid.specs.Sides.{chosen_at, chosen}
use Rattle.trellis.proofs.RunLaws.{label_under}
use Rattle.trellis.specs.Code.{isdb, state_at}
use Rattle.isdbs_points.specs.Frame.{label_at}
use Rattle.best_grid.proofs.SideLaws.{Upright}
use Rattle.best_sides.specs.FrameSides.{frame_metrics, better_in, side_by, side_in, side_at, frame_sides}

-- ---- the flat list in fours
flat : (t : Table) (r : Received) (k i : ℕ) → k < frame_steps t → i < 4 → get_or (frame_metrics t r) (4 * k + i) nan ≡ get_or (metrics_at t r k) i nan
unfolding frame_metrics
flat t r k i h l =
    let e : (4 * k + i) / 4 ≡ k = omega arith in
    let f : (4 * k + i) % 4 ≡ i = omega arith in
    get_d_upto (λ j. get_or (metrics_at t r (j / 4)) (j % 4) nan) nan (4 * frame_steps t) (4 * k + i) (omega arith) ∙ rw (e, f) refl

pub quadruple_is : (t : Table) (r : Received) (k l : ℕ) → k < frame_steps t → l < 4 → get_or (quadruple (frame_metrics t r) k) l nan ≡ get_or (metrics_at t r k) l nan
quadruple_is t r k zero h l = let e : 4 * k + 0 ≡ 4 * k = omega arith in rw e at (flat t r k 0 h l)
quadruple_is t r k (suc zero) h l = flat t r k 1 h l
quadruple_is t r k (suc (suc zero)) h l = flat t r k 2 h l
quadruple_is t r k (suc (suc (suc zero))) h l = flat t r k 3 h l
quadruple_is t r k (suc (suc (suc (suc i)))) h l = absurd (omega arith)

-- ---- sides
pub side_is : (t : Table) (r : Received) (k : ℕ) → k < frame_steps t → get_or (frame_sides t r) k 0 ≡ side_at t r k
unfolding frame_sides
side_is t r k h = get_d_upto (side_at t r) 0 (frame_steps t) k h

-- a side of 16 or more is that of TC8PSK
only_three : (x : Modulation) (r : Received) (g : Segment) (k : ℕ) → 16 ≤ side_by x r g k → x ≡ Tc8psk
unfolding side_by
only_three Bpsk r g k h = absurd (omega arith)
only_three Qpsk r g k h = absurd (omega arith)
only_three Tc8psk r g k h = refl

-- and bit l of it the better C2 at the label l
pub side_bit : (r : Received) (g : Segment) (k l : ℕ) → l < 4 → side_by Tc8psk r g k / 2 ^ l % 2 ≡ better_in r g k l
unfolding side_by
side_bit r g k l h = go (better_in r g k) (λ i. (bit_is (lt _ _)).0) l h
  where
    go : (b : ℕ → ℕ) → ((i : ℕ) → b i < 2) → (l : ℕ) → l < 4 → (16 + (b 0 + 2 * b 1 + 4 * b 2 + 8 * b 3)) / 2 ^ l % 2 ≡ b l
    go b s zero h = let x = s 0 in let y = s 1 in let z = s 2 in let w = s 3 in omega arith
    go b s (suc zero) h = let x = s 0 in let y = s 1 in let z = s 2 in let w = s 3 in omega arith
    go b s (suc (suc zero)) h = let x = s 0 in let y = s 1 in let z = s 2 in let w = s 3 in omega arith
    go b s (suc (suc (suc zero))) h = let x = s 0 in let y = s 1 in let z = s 2 in let w = s 3 in omega arith
    go b s (suc (suc (suc (suc l)))) h = absurd (omega arith)

pub has_side : (r : Received) (g : Segment) (k : ℕ) → leb 16 (side_by Tc8psk r g k) ≡ true
unfolding side_by
has_side r g k = le-leb 16 (16 + (better_in r g k 0 + 2 * better_in r g k 1 + 4 * better_in r g k 2 + 8 * better_in r g k 3)) (omega arith)

-- ---- what is not below 0 has no part below
not_below : (x : Float) → Up binary32 x → below x ≡ 0
unfolding below
not_below x u = none_capped (lo binary32 x) (either (one_side binary32 x))
  where
    either : (hi binary32 x ≡ 0) ⊎ (lo binary32 x ≡ 0) → lo binary32 x ≡ 0
    either (inl e) = under (lo binary32 x) (hi binary32 x) u e
      where
        under : (a b : ℕ) → a ≤ b → b ≡ 0 → a ≡ 0
        under a b h e = omega arith
    either (inr e) = e

module _ (t : Table) (fit : TableAccepted t) (r : Received) (z : Sized 16 6 r) where
  -- what the best content asks of the metrics with sides
  pub frame_upright : Upright (frame_metrics t r) (frame_sides t r) (frame_steps t)
  unfolding metrics_at side_at
  frame_upright k l h hl e =
      let f = find_step t k h in
      let s = leb-true 16 (get_or (frame_sides t r) k 0) e in
      let side : side_at t r k ≡ side_in r f.segment f.place = ap (at_step 0 (side_in r) t) f.place_is ∙ (at_step_lem t 0 (side_in r) f.segment f.member f.place f.small) in
      let m : metrics_at t r k ≡ metrics_in r f.segment f.place = ap (at_step [] (metrics_in r) t) f.place_is ∙ (at_step_lem t [] (metrics_in r) f.segment f.member f.place f.small) in
      let three = only_three (modulation_of f.segment.combination) r f.segment f.place (let a = side_is t r k h in subst (λ (n : ℕ). 16 ≤ n) (a ∙ side) s) in
      rw (quadruple_is t r k l h hl, m)
      (not_below (get_or (metrics_in r f.segment f.place) l nan) (metrics_up 16 6 (lit≤ tt) t fit r z f.segment f.member f.place f.small three l hl))

  -- and what the grid's theorem asks: no metric is beyond 2 ^ 23
  pub frame_held : Held (quadruple (frame_metrics t r)) (frame_steps t)
  unfolding pow2
  frame_held k l h hl =
      let s = metric_in 16 6 (lit≤ tt) t fit r z k h l hl in
      rw (quadruple_is t r k l h hl) (
        div-le_of_le-mul unit {m = hi binary32 (get_or (metrics_at t r k) l nan)} {n = most} s.above,
        div-le_of_le-mul unit {m = lo binary32 (get_or (metrics_at t r k) l nan)} {n = most} s.below,
      )

-- the better uncoded bits of a path are the C2 that decoding writes: "C2 is 1 exactly when (v × conj p).re is below 0, p being the point of label 2C1+C0"
pub chosen_uncoded : (t : Table) (r : Received) (us : List ℕ) (s : ℕ) (g : Segment) → In g (segments t) → modulation_of g.combination ≡ Tc8psk → (k : ℕ) → k < g.steps → g.step + k < frame_steps t
    → chosen (frame_sides t r) us s (g.step + k) ≡ uncoded r (label_at s us) g k
unfolding side_at
chosen_uncoded t r us s g m e k h u =
    let i = g.step + k in
    let l = label_at s us i in
    let side : get_or (frame_sides t r) i 0 ≡ side_by Tc8psk r g k = side_is t r i u ∙ at_step_lem t 0 (side_in r) g m k h ∙ ap (λ (x : Modulation). side_by x r g k) e in
    ap (λ (n : ℕ). chosen_at n l) side ∙ ap (λ (b : Bool). cond b (side_by Tc8psk r g k / 2 ^ l % 2) 0) (has_side r g k) ∙ side_bit r g k l (label_under isdb (get_or us i 0) (state_at 32 s us i))

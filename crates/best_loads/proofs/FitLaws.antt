-- The fit of a load is the worth of its inputs and uncoded bits.
use Rattle.std.specs.Prelude.{◌≡◌, cond, eqb, leb, pos, neg_ℤ, Float}
use Rattle.std.proofs.Math.Path.{refl, sym, ap, subst}
use Rattle.std.proofs.Common.{◌∙◌, arith}
use mathlib.Core.List.{List, []}
use Prim.Native.Nat.{ℕ, zero, suc, ◌+◌, ◌*◌, ◌/◌, ◌%◌, ◌^◌, ◌≤◌, ◌<◌}
use Rattle.std.proofs.Math.ListN.{get_or}
use Rattle.std.specs.Float.{nan}
use Rattle.trellis.specs.Lists.{bit}
use Rattle.trellis.specs.ListLaws.{get_d_upto, length_upto}
use Rattle.trellis.specs.Run.{quadruple}
use Rattle.trellis.proofs.RunLaws.{label_under}
use Rattle.trellis.specs.Code.{isdb, state_at}
use Rattle.trellis.specs.Isdb
use Rattle.isdbs_combination.specs.declared.Modulation.{Modulation}
use Rattle.isdbs_combination.specs.declared.Modulation.TheVariants.{Bpsk, Qpsk, Tc8psk}
use Rattle.isdbs_combination.specs.Combinations.{modulation_of}
use Rattle.isdbs_tables.specs.declared.Table.{Table}
use Rattle.isdbs_plan.specs.RunsOf.{frame_steps}
use Rattle.isdbs_points.specs.Layout.{Segment, segments, In, at_step, load_bit}
use Rattle.isdbs_points.specs.Frame.{input_in, inputs, label_at}
use Rattle.isdbs_points.specs.SizeLaws.{at_step_lem, find_step, step_fits}
use Rattle.isdbs_points.specs.BitLaws.{load_bit_small}
use Rattle.isdbs_points.specs.InputLaws.{input_small}
use Rattle.isdbs_metrics.specs.Reading.{Received, metrics_by, metrics_in, metrics_at}
use Rattle.best_sides.specs.FrameSides.{frame_metrics, frame_sides, side_by, side_in, side_at}
use Rattle.best_sides.specs.FrameLaws.{quadruple_is, side_is, side_bit, has_side}
use Rattle.best_grid.specs.Grid.{grid}
use Rattle.best_grid.specs.Sides.{two, worth_at}
use Rattle.best_grid.specs.Contents.{Content, worth}
use Rattle.best_loads.specs.Fit.{step_fit, fit_in, fit_at, fit_to, fit}
use Rattle.best_loads.specs.Held.{uncoded_by, uncoded_in, uncoded_bits}

-- ---- a step
worth_by : (md : Modulation) (r : Received) (g : Segment) (k z l : ℕ) → l < 4 → (side : ℕ) → side ≡ side_by md r g k → (x : Float) → x ≡ get_or (metrics_by md r g k) l nan
    → cond (leb 16 side) (cond (eqb z (side / 2 ^ l % 2)) (grid x) (neg_ℤ (grid x))) (grid x) ≡ step_fit md r g k z l
unfolding side_by step_fit
worth_by Bpsk r g k z l h side e x f = rw (e, f) refl
worth_by Qpsk r g k z l h side e x f = rw (e, f) refl
worth_by Tc8psk r g k z l h side e x f = rw (f, e, has_side r g k, side_bit r g k l h) refl

-- the uncoded bit of a load is at most what the step may have
beside_small : (md : Modulation) (r : Received) (load : List ℕ) (g : Segment) (k : ℕ) → uncoded_by md load g k ≤ bit (leb 16 (side_by md r g k))
beside_small Bpsk r load g k = omega arith
beside_small Qpsk r load g k = omega arith
beside_small Tc8psk r load g k = let h = load_bit_small load (g.bit + 2 * k) in rw (has_side r g k) (omega arith)

beside_fit : (md : Modulation) (r : Received) (load : List ℕ) (g : Segment) (k l : ℕ) → step_fit md r g k (uncoded_by md load g k) l ≡ step_fit md r g k (load_bit load (g.bit + 2 * k)) l
unfolding step_fit
beside_fit Bpsk r load g k l = refl
beside_fit Qpsk r load g k l = refl
beside_fit Tc8psk r load g k l = refl

module _ (t : Table) where
  pub beside_at : (load : List ℕ) (g : Segment) → In g (segments t) → (k : ℕ) → k < g.steps → get_or (uncoded_bits t load) (g.step + k) 0 ≡ uncoded_in load g k
  unfolding uncoded_bits
  beside_at load g m k h = get_d_upto (at_step 0 (uncoded_in load) t) 0 (frame_steps t) (g.step + k) (step_fits t g m k h) ∙ at_step_lem t 0 (uncoded_in load) g m k h

module _ (t : Table) (r : Received) where
  abbrev xs : List Float
  xs = frame_metrics t r

  abbrev sides : List ℕ
  sides = frame_sides t r

  side_in_lem : (g : Segment) → In g (segments t) → (k : ℕ) → k < g.steps → get_or sides (g.step + k) 0 ≡ side_in r g k
  unfolding side_at
  side_in_lem g m k h = side_is t r (g.step + k) (step_fits t g m k h) ∙ at_step_lem t 0 (side_in r) g m k h

  pub metric_in : (g : Segment) → In g (segments t) → (k l : ℕ) → k < g.steps → l < 4 → get_or (quadruple xs (g.step + k)) l nan ≡ get_or (metrics_in r g k) l nan
  unfolding metrics_at
  metric_in g m k l h hl = quadruple_is t r (g.step + k) l (step_fits t g m k h) hl ∙ ap (λ (x : List Float). get_or x l nan) (at_step_lem t [] (metrics_in r) g m k h)

  pub worth_in : (g : Segment) → In g (segments t) → (k z l : ℕ) → k < g.steps → l < 4 → worth_at xs sides (g.step + k) z l ≡ step_fit (modulation_of g.combination) r g k z l
  unfolding worth_at
  worth_in g m k z l h hl =
      worth_by (modulation_of g.combination) r g k z l hl (get_or sides (g.step + k) 0) (side_in_lem g m k h) (get_or (quadruple xs (g.step + k)) l nan) (metric_in g m k l h hl)

  -- no uncoded bit where the step has none
  pub one_bit : (load : List ℕ) (k : ℕ) → k < frame_steps t → get_or (uncoded_bits t load) k 0 ≤ bit (two xs sides k)
  one_bit load k h =
      let f = find_step t k h in
      let g = f.segment in
      let p = f.place in
      rw (f.place_is, beside_at t load g f.member p f.small, side_in_lem g f.member p f.small) (beside_small (modulation_of g.combination) r load g p)

  -- a side of 0 leaves no room for one
  pub none_beside : (g : Segment) → In g (segments t) → (k : ℕ) → k < g.steps → two xs sides (g.step + k) ≡ leb 16 (side_in r g k)
  none_beside g m k h = ap (leb 16) (side_in_lem g m k h)

  module _ (load : List ℕ) (s : ℕ) where
    step_fit_lem : (k : ℕ) → k < frame_steps t → worth_at xs sides k (get_or (uncoded_bits t load) k 0) (label_at s (inputs t load) k) ≡ fit_at t r load s k
    unfolding fit_at
    step_fit_lem k h =
        let f = find_step t k h in
        let g = f.segment in
        let p = f.place in
        let l = label_at s (inputs t load) (g.step + p) in
        let u : worth_at xs sides (g.step + p) (get_or (uncoded_bits t load) (g.step + p) 0) l ≡ at_step (pos 0) (fit_in r load (label_at s (inputs t load))) t (g.step + p) =
        ap (λ (z : ℕ). worth_at xs sides (g.step + p) z l) (beside_at t load g f.member p f.small)
        ∙ worth_in g f.member p (uncoded_in load g p) l f.small (label_under isdb (get_or (inputs t load) (g.step + p) 0) (state_at 32 s (inputs t load) (g.step + p)))
        ∙ beside_fit (modulation_of g.combination) r load g p l
        ∙ sym (at_step_lem t (pos 0) (fit_in r load (label_at s (inputs t load))) g f.member p f.small) in
        subst (λ (i : ℕ). worth_at xs sides i (get_or (uncoded_bits t load) i 0) (label_at s (inputs t load) i) ≡ at_step (pos 0) (fit_in r load (label_at s (inputs t load))) t i) (sym f.place_is) u

    worth_to : (k : ℕ) → k ≤ frame_steps t → worth (worth_at xs sides) s (inputs t load) (uncoded_bits t load) k ≡ fit_to t r load s k
    unfolding worth fit_to
    worth_to zero h = refl
    worth_to (suc k) h = rw (worth_to k (omega arith), step_fit_lem k h) refl

    -- THE FIT of a load is the worth of its content
    pub load_worth : worth (worth_at xs sides) s (inputs t load) (uncoded_bits t load) (frame_steps t) ≡ fit t r load s
    load_worth = worth_to (frame_steps t) (omega arith)

    pub load_content : s < Isdb.states → Content (two xs sides) (frame_steps t) s (inputs t load) (uncoded_bits t load)
    unfolding inputs uncoded_bits
    load_content h = record {
      path = record { walk = record { start = h; bits = input_small t load }; count = length_upto (at_step 0 (input_in load) t) (frame_steps t) };
      count = length_upto (at_step 0 (uncoded_in load) t) (frame_steps t);
      uncoded = one_bit load;
    }

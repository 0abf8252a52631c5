-- Certain implies best: where the points lie within the margins of a full load, that load is the best reading, each of its leads is above 0, and `decode_frame` reads it too.
use Rattle.std.specs.Prelude.{◌≡◌, ◌⊎◌, Bool, true, List, ℕ, ◌+◌, ◌-◌, ◌%◌, ◌≤◌, ◌<◌, ℤ, pos, ◌+ℤ◌, ◌≤ℤ◌, Float}
use Rattle.std.proofs.Math.Path.{sym, ap}
use Rattle.std.proofs.Common.{◌∙◌, subst, inl, inr, ⊎_elim, true≢false, arith, ext_get_or}
use Rattle.std.proofs.Math.Bool.{cond}
use Rattle.std.proofs.Math.Dec.{leb}
use Rattle.std.proofs.Math.ListN.{get_or}
use Rattle.std.specs.Float.{nan, binary32}
use Rattle.ieee.specs.Order.{le→value}
use Rattle.trellis.specs.Code.{state_at, isdb}
use Rattle.trellis.proofs.RunLaws.{label_under}
use Rattle.trellis.specs.Isdb
use Rattle.path_greatest.specs.Fresh.{StartsIn}
use Rattle.path_greatest.specs.declared.Start.TheVariants.{Given}
use Rattle.isdbs_combination.specs.declared.Modulation.{Modulation}
use Rattle.isdbs_combination.specs.Combinations.{modulation_of}
use Rattle.isdbs_tables.specs.declared.Table.{Table}
use Rattle.isdbs_tables.specs.Tables.{TableAccepted}
use Rattle.isdbs_plan.specs.RunsOf.{frame_steps, load_bytes, valid_total}
use Rattle.isdbs_points.specs.declared.Mapping.{Mapping}
use Rattle.isdbs_points.specs.Layout.{Segment, segments, In, FullLoad}
use Rattle.isdbs_points.specs.Frame.{inputs, label_at, start_state}
use Rattle.isdbs_points.specs.SizeLaws.{find_step, step_fits}
use Rattle.isdbs_points.specs.OrderLaws.{Kind, one, two, three, kind}
use Rattle.isdbs_metrics.specs.Reading.{Received, metrics_at, decoded_bytes, received}
use Rattle.margins.specs.Margins.{Within}
use Rattle.margin_ends.specs.Ends.{eight}
use Rattle.range_metrics.specs.Metrics.{Sized}
use Rattle.exact_load.specs.Steps.{step_favours, tc_bit}
use Rattle.exact_load.specs.Exact.{decoded_load, start_small}
use Rattle.best_grid.specs.Sides as sided
use Rattle.best_grid.specs.Contents.{worth}
use Rattle.best_sides.specs.FrameSides.{frame_metrics, frame_sides, side_by}
use Rattle.best_sides.specs.FrameLaws.{quadruple_is, frame_upright, frame_held, chosen_uncoded}
use Rattle.best_loads.specs.Fit.{fit, Sent, LeadsIn, BestReading}
use Rattle.best_loads.specs.Held.{uncoded_bits, uncoded_by}
use Rattle.best_loads.proofs.FitLaws.{beside_at, none_beside, load_worth, load_content}
use Rattle.best_loads.proofs.HeldLaws.{load_only}
use Rattle.best_loads.proofs.OnlyLaws.{below_same, no_gain, ≤ℤ-trans}
use Rattle.best_certain.specs.Gaps.{least, grid_ordered, grid_apart}
use Rattle.best_certain.specs.Apart.{Ahead, apart}

module _ (t : Table) (ok : TableAccepted t) (m : Mapping) (first : Bool) (load : List ℕ) (full : FullLoad load (load_bytes t)) (re im : List Float) (within : Within re im load t m first)
    (sized : Sized 16 6 (received re im m eight)) where
  abbrev r : Received
  r = received re im m eight

  abbrev s : ℕ
  s = start_state first

  abbrev xs : List Float
  xs = frame_metrics t r

  abbrev sides : List ℕ
  sides = frame_sides t r

  abbrev n : ℕ
  n = frame_steps t

  -- the sent pair is the greatest, and its complement far below
  ahead : (k : ℕ) → k < n → Ahead xs sides k (Isdb.label_at s (inputs t load) k)
  ahead k h =
      let c = Isdb.label_at s (inputs t load) k in
      let small = label_under isdb (get_or (inputs t load) k 0) (state_at 32 s (inputs t load) k) in
      let f = step_favours t ok m first load re im within k h in
      let held = frame_held t ok r sized k in
      let far : 3 - c < 4 = omega arith in
      record {
        best = λ l g.
            rw (quadruple_is t r k l h g, quadruple_is t r k c h small)
            (grid_ordered (get_or (metrics_at t r k) c nan) (get_or (metrics_at t r k) l nan) (le→value binary32 (get_or (metrics_at t r k) l nan) (get_or (metrics_at t r k) c nan) (f.numbers l g) (f.numbers c small) (f.best l g)));
        clear =
            let x = held c h small in
            let y = held (3 - c) h far in
            rw (quadruple_is t r k (3 - c) h far, quadruple_is t r k c h small)
            (grid_apart (get_or (metrics_at t r k) c nan) (get_or (metrics_at t r k) (3 - c) nan) (rw (quadruple_is t r k c h small) at x) (rw (quadruple_is t r k (3 - c) h far) at y) f.clear);
      }

  -- its C2 is the better one
  side_at_lem : (g : Segment) → In g (segments t) → (p : ℕ) → p < g.steps → sided.two xs sides (g.step + p) ≡ true → leb 16 (side_by (modulation_of g.combination) r g p) ≡ true
  side_at_lem g i p l q = sym (none_beside t r g i p l) ∙ q

  own_at : (g : Segment) → In g (segments t) → (p : ℕ) → p < g.steps
      → sided.two xs sides (g.step + p) ≡ true → get_or (uncoded_bits t load) (g.step + p) 0 ≡ sided.better xs sides (g.step + p) (Isdb.label_at s (inputs t load) (g.step + p))
  unfolding side_by
  own_at g i p l q = go (kind g.combination)
    where
      go : Kind g.combination → get_or (uncoded_bits t load) (g.step + p) 0 ≡ sided.better xs sides (g.step + p) (Isdb.label_at s (inputs t load) (g.step + p))
      go (one e d) = absurd (true≢false (sym (side_at_lem g i p l q) ∙ ap (λ (x : Modulation). leb 16 (side_by x r g p)) e))
      go (two e d) = absurd (true≢false (sym (side_at_lem g i p l q) ∙ ap (λ (x : Modulation). leb 16 (side_by x r g p)) e))
      go (three e d) =
          beside_at t load g i p l
          ∙ ap (λ (x : Modulation). uncoded_by x load g p) e
          ∙ sym (tc_bit t ok m first load re im within g i e d p l)
          ∙ sym (chosen_uncoded t r (inputs t load) s g i e p l (step_fits t g i p l))
          ∙ ap (λ (w : Bool). cond w (sided.better xs sides (g.step + p) (Isdb.label_at s (inputs t load) (g.step + p))) 0) q

  own : (k : ℕ) → k < n → sided.two xs sides k ≡ true → get_or (uncoded_bits t load) k 0 ≡ sided.better xs sides k (Isdb.label_at s (inputs t load) k)
  own k h =
      let f = find_step t k h in
      subst (λ (i : ℕ). sided.two xs sides i ≡ true → get_or (uncoded_bits t load) i 0 ≡ sided.better xs sides i (Isdb.label_at s (inputs t load) i)) (sym f.place_is) (own_at f.segment f.member f.place f.small)

  -- every other full load is behind
  pub behind : (other : List ℕ) → FullLoad other (load_bytes t) → (load ≡ other) ⊎ ((fit t r other s +ℤ pos least) ≤ℤ fit t r load s)
  behind other fo =
      ⊎_elim (λ same. inl (load_only t ok load other full fo (alike_inputs other (λ k l. (same k l).0)) (alike_bits other (λ k l. (same k l).1))))
      (λ b. inr (subst (λ (x : ℤ). (x +ℤ pos least) ≤ℤ fit t r load s) (load_worth t r other s)
      (subst (λ (x : ℤ). (worth (sided.worth_at xs sides) s (inputs t other) (uncoded_bits t other) n +ℤ pos least) ≤ℤ x) (load_worth t r load s) b)))
      (apart xs sides n (frame_upright t ok r sized) s (inputs t load) (uncoded_bits t load) (load_content t r load s (start_small first)) own ahead (inputs t other) (uncoded_bits t other) (load_content t r other s (start_small first)))
    where
      alike_inputs : (other : List ℕ) → ((k : ℕ) → k < n → get_or (inputs t load) k 0 ≡ get_or (inputs t other) k 0) → inputs t load ≡ inputs t other
      alike_inputs other f =
          let a = (load_content t r load s (start_small first)).path.count in
          let b = (load_content t r other s (start_small first)).path.count in
          ext_get_or 0 (inputs t load) (inputs t other) (a ∙ sym b) (λ k l. f k (omega arith))

      alike_bits : (other : List ℕ) → ((k : ℕ) → k < n → get_or (uncoded_bits t load) k 0 ≡ get_or (uncoded_bits t other) k 0) → uncoded_bits t load ≡ uncoded_bits t other
      alike_bits other f =
          let a = (load_content t r load s (start_small first)).count in
          let b = (load_content t r other s (start_small first)).count in
          ext_get_or 0 (uncoded_bits t load) (uncoded_bits t other) (a ∙ sym b) (λ k l. f k (omega arith))

  module _ (read ls : List ℕ) (b : BestReading t r (StartsIn Isdb.states (Given s)) read ls) where
    begins : (q : ℕ) → q ≡ s % Isdb.states → q ≡ s
    begins q e = let l = start_small first in omega arith

    sent : Sent t (StartsIn Isdb.states (Given s)) s load
    sent = let l = start_small first in record { full = full; state = l; begins = omega arith }

    -- CERTAIN IMPLIES BEST
    pub certain_best : read ≡ load
    certain_best = ⊎_elim (λ e. sym e) (λ l. absurd (never l)) (behind read b.sent.full)
      where
        never : (fit t r read s +ℤ pos least) ≤ℤ fit t r load s → ⊥
        never l =
            let x = b.best s load sent in
            let y : fit t r load s ≤ℤ fit t r read s = subst (λ (q : ℕ). fit t r load s ≤ℤ fit t r read q) (begins b.s b.sent.begins) x in
            let z = no_gain (fit t r read s) least (≤ℤ-trans (fit t r read s +ℤ pos least) (fit t r load s) (fit t r read s) l y) in
            omega arith

    -- with every lead above 0
    pub certain_leads : (k : ℕ) → k < valid_total t → least ≤ get_or ls k 0
    certain_leads k h = ⊎_elim (λ e. absurd (l.differ.unlike (ap (λ (x : List ℕ). get_or x l.differ.byte 0) (certain_best ∙ e)))) by (behind l.rival l.sent.full)
      where
        l : LeadsIn t r (StartsIn Isdb.states (Given s)) b.s read k (get_or ls k 0)
        l = b.leads k h

        by : (fit t r l.rival s +ℤ pos least) ≤ℤ fit t r load s → least ≤ get_or ls k 0
        by x =
            let e : fit t r l.rival s +ℤ pos (get_or ls k 0) ≡ fit t r load s =
            ap (λ (q : ℕ). fit t r l.rival q +ℤ pos (get_or ls k 0)) (sym (begins l.start l.sent.begins)) ∙ l.exactly ∙ ap (λ (q : ℕ). fit t r read q) (begins b.s b.sent.begins) ∙ ap (λ (a : List ℕ). fit t r a s) certain_best in
            below_same (fit t r l.rival s) least (get_or ls k 0) (subst (λ (y : ℤ). (fit t r l.rival s +ℤ pos least) ≤ℤ y) (sym e) x)

    -- and `decode_frame` reads the same
    pub certain_decoded : decoded_bytes t r true first ≡ read
    certain_decoded = decoded_load t ok m first load full re im within ∙ sym certain_best

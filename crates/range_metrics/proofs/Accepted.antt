-- The rows of `decode_frame` give the sizes of the parts and of the scale, and these give the ranges.
use Rattle.std.specs.Prelude.{◌≡◌, Bool, true, false, not, List, ◌++◌, ℕ, zero, suc, ◌+◌, ◌-◌, ◌*◌, ◌<◌, ◌≤◌, T, get_or, Float}
use Rattle.std.proofs.Common.{sym, subst, inl, inr, not-suc-le-zero, arith, below_more, lit≤, lit<}
use Rattle.std.specs.Float.{nan, inf, fin, binary32, binary64}
use Rattle.std.specs.Float.Ieee.{neg, lt, le, fits, of_bits}
use Rattle.std.specs.Float.Ieee.Fits.{and_i, and_l, and_r}
use Rattle.refusal.specs.Rows.{Row, first_row, Accepted, Sample, Scale}
use Rattle.ieee.specs.Value.{Num, hi_neg, num_neg}
use Rattle.ieee.specs.Order.{le→value, lt→value, not-lt→value, value→le, num_between}
use Rattle.ieee.proofs.Constants.{two_to, two_to_num}
use Rattle.trellis.specs.Step.{Tie, nexts, renormalised}
use Rattle.trellis.specs.Run.{values_at, pushed, fresh_from}
use Rattle.trellis.proofs.RunLaws.{after_values}
use Rattle.path_lead.specs.Complement.{small, complement}
use Rattle.range_paths.specs.Bounds.{Within, wider}
use Rattle.range_paths.specs.Values.{nothing, from_least, to_most}
use Rattle.range_paths.specs.Steps.{Soft, quad, Falls, quad_falls}
use Rattle.range_paths.specs.Invariant.{Bounded}
use Rattle.range_paths.proofs.Invariant.{bounded_within}
use Rattle.range_paths.proofs.Run.{InRange, soft_call, known_call_lem, path_within, path_within_next}
use Rattle.range_paths.proofs.Starts.{level, given_bounded, unknown_bounded}
use Rattle.refusal.proofs.RowLaws as row
use Rattle.isdbs_tables.proofs.TableLaws.{then_accepted}
use Rattle.isdbs_combination.specs.declared.Combination.{Combination}
use Rattle.isdbs_tables.specs.declared.Table.{Table}
use Rattle.isdbs_combination.specs.Combinations.{word_of}
use Rattle.isdbs_tables.specs.Tables.{TableAccepted}
use Rattle.isdbs_plan.specs.RunsOf.{frame_steps}
use Rattle.isdbs_points.specs.declared.Mapping.{Mapping}
use Rattle.isdbs_rows.specs.DecodeRows.{some_of, part_limit, scale_limit, bad_scale, some_bad, point_rows, last_rows, decode_rows, some_of_beyond}
use Rattle.isdbs_points.specs.Layout.{word_bit}
use Rattle.isdbs_points.specs.Frame.{start_state}
use Rattle.isdbs_metrics.specs.Reading.{Received, metrics_at, start_values, known_bits}
use Rattle.isdbs_metrics.specs.FrameSteps.{frame_metrics}
use Rattle.isdbs_metrics.specs.ScaleLaws.{word_in}
use Rattle.isdbs_metrics.specs.Scales.{scale_of, received_by}
use Rattle.ieee.specs.Within.{within}
use Rattle.range_metrics.proofs.NumberLaws.{part_limit_lem, scale_limit_lem, soft_limit_lem, metric_limit_lem, step_most_lem, path_limits, known_limits, under_ruled, least_path_lem, most_path_lem, room_enough}
use Rattle.range_metrics.specs.Size.{Size, two_lo, between_size, size_from, size_to}
use Rattle.range_metrics.specs.Rising.{Up, Rises}
use Rattle.range_metrics.specs.Metrics.{Sized, soft_in, metric_in, metric_rises}
use Rattle.range_metrics.specs.Ranges.{Between, path_range, Ranges, frame_at}
use Rattle.isdbs_frame.specs.Frame.{main_symbols, w1}
use Rattle.trellis.specs.Isdb.{frame_traceback}
use Rattle.trellis.specs.Isdb
use Rattle.range_metrics.specs.Limits.{soft_limit, metric_limit, least_path, most_path}
use Rattle.range_metrics.specs.Numbers.{part_power, scale_power, metric_power, step_most, floor, room}

-- ---- a value within a power of two, as a test
size_within : {t : ℕ} {x : Float} (limit : Float) → limit ≡ two_to t → t ≤ 127 → Size binary32 t x → T (within limit x)
size_within {t} {x} limit e h s =
    let n = two_to_num binary32 t h in
    rw e
    (and_i (le (neg (two_to t)) x) (le x (two_to t))
    (value→le binary32 (neg (two_to t)) x (num_neg n) s.num (size_from s))
    (value→le binary32 x (two_to t) s.num n (size_to s)))

-- ---- the parts
part_size : (x : Float) → T (fits binary64 x) → T (within part_limit x) → Size binary64 part_power x
part_size x f t =
    let w : T (within (two_to part_power) x) = rw part_limit_lem at t in
    let n = two_to_num binary64 part_power (lit≤ tt) in
    let a = and_l (le (neg (two_to part_power)) x) (le x (two_to part_power)) w in
    let b = and_r (le (neg (two_to part_power)) x) (le x (two_to part_power)) w in
    let m = num_between (num_neg n) n f a b in
    between_size (record { num = m; from = le→value binary64 (neg (two_to part_power)) x (num_neg n) m a; to = le→value binary64 x (two_to part_power) m n b })

not_false : (b : Bool) → not b ≡ false → T b
not_false true e = tt
not_false false e = absurd (subst T e tt)

none_of : (bad : Float → Bool) (xs : List Float) (n : ℕ) → some_of bad xs n ≡ false → (k : ℕ) → k < n → bad (get_or xs k nan) ≡ false
unfolding some_of
none_of bad xs zero e k h = absurd (not-suc-le-zero h)
none_of bad xs (suc n) e k h =
    let p = row.neither (some_of bad xs n) (bad (get_or xs n nan)) e in
    below_more (λ j. bad (get_or xs j nan) ≡ false) n (none_of bad xs n p.0) p.1 k (omega arith)

parts_in : (xs : List Float) (n : ℕ) → some_of_beyond part_limit xs n ≡ false → (k : ℕ) → k < n → T (within part_limit (get_or xs k nan))
parts_in xs n e k h = not_false (within part_limit (get_or xs k nan)) (none_of (λ x. not (within part_limit x)) xs n e k h)

-- ---- a scale: above 0 and not above its limit
scale_num : (s : Float) → T (fits binary32 s) → T (lt (of_bits binary32 0) s) → lt scale_limit s ≡ false → Num binary32 s
unfolding lt of_bits
scale_num nan f h k = absurd h
scale_num (inf true) f h k = absurd h
scale_num (inf false) f h k = absurd (subst T k tt)
scale_num (fin b m e) f h k = record { fin_x = tt; fits_x = f }

scale_size : (s : Float) → T (fits binary32 s) → bad_scale s ≡ false → Size binary32 scale_power s × Up binary32 s
scale_size s f e =
    let p = row.neither (not (lt (of_bits binary32 0) s)) (lt scale_limit s) e in
    let a = not_false (lt (of_bits binary32 0) s) p.0 in
    let m = scale_num s f a p.1 in
    let n = two_to_num binary32 scale_power (lit≤ tt) in
    let l = lt→value binary32 (of_bits binary32 0) s nothing.num m a in
    let h = nothing.hi_is in
    let k = nothing.lo_is in
    let h' = hi_neg binary32 (two_to scale_power) in
    let l' = two_lo binary32 scale_power in
    let u = not-lt→value binary32 (two_to scale_power) s n m (rw (← scale_limit_lem, p.1) tt) in
    (between_size (record { num = m; from = omega arith; to = u }), omega arith)

-- the scale of each combination is one of the seven
scales_in : (scales : List Float) → ((i : ℕ) → T (fits binary32 (get_or scales i nan))) → some_bad scales ≡ false → (c : Combination) → Size binary32 scale_power (scale_of scales c) × Up binary32 (scale_of scales c)
scales_in scales f e c =
    let w = word_in c in
    let h : word_of c - 1 < 7 = omega arith in
    scale_size (scale_of scales c) (f (word_of c - 1)) (none_of bad_scale scales 7 e (word_of c - 1) h)

-- ---- what the rows of an accepted call say
record Passed (t : Table) (re im scales : List Float) : Type 0 where
  fit : TableAccepted t
  re_fine : some_of_beyond part_limit re main_symbols ≡ false
  im_fine : some_of_beyond part_limit im main_symbols ≡ false
  scales_fine : some_bad scales ≡ false

module _ (t : Table) (re im scales : List Float) (decisions bits bytes counts : ℕ) where
  passed : Accepted ≡ first_row (decode_rows t re im scales decisions bits bytes counts) → Passed t re im scales
  passed e =
      let rest : List Row = point_rows re im ++ last_rows t (some_bad scales) decisions bits bytes counts in
      let b = then_accepted t rest (sym e) in
      let p = row.passed rest tt b.1 in
      let q = row.neither (some_of_beyond part_limit re main_symbols) (some_of_beyond part_limit im main_symbols) (p Sample) in
      record { fit = b.0; re_fine = q.0; im_fine = q.1; scales_fine = p Scale }

-- ---- the path values of sized steps
module _ (e : Tie) (t : Table) (r : Received) (metrics : (k l : ℕ) → k < frame_steps t → l < 4 → Size binary32 metric_power (get_or (metrics_at t r k) l nan))
    (rises : (k l : ℕ) → k < frame_steps t → l < 4 → Rises (metrics_at t r k) l) (pm : List Float) (start : Bounded step_most floor 0 0 pm)
  where
    metric_within : (k l : ℕ) → k < frame_steps t → l < 4 → Within (get_or (metrics_at t r k) l nan) step_most step_most
    metric_within k l h g =
        let s = metrics k l h g in
        let a = s.above in
        let b = s.below in
        let m = step_most_lem in
        record { num = s.num; low = omega arith; high = omega arith }

    soft_step : (k : ℕ) → k < frame_steps t → Soft step_most (frame_metrics t r k)
    soft_step k h = quad (λ l. metric_within k l h)

    -- one of the two branches that leave a state has a metric that is not below 0
    falls : (k : ℕ) → k < frame_steps t → (s : ℕ) → s < 64 → Falls step_most 0 Isdb.labels (frame_metrics t r k) s
    falls k h s l = go (rises k (Isdb.labels 0 s) h (small 0 s (lit< tt) l))
      where
        at : (u : ℕ) → u < 2 → Within (get_or (metrics_at t r k) (Isdb.labels u s) nan) step_most step_most
        at u g = metric_within k (Isdb.labels u s) h (small u s g l)

        go : Rises (metrics_at t r k) (Isdb.labels 0 s) → Falls step_most 0 Isdb.labels (frame_metrics t r k) s
        go (inl p) = quad_falls Isdb.labels s 0 (lit< tt) (at 0 (lit< tt)) (omega arith)
        go (inr p) = let c : Isdb.labels 1 s ≡ 3 - Isdb.labels 0 s = complement 0 s (lit< tt) l in quad_falls Isdb.labels s 1 (lit< tt) (at 1 (lit< tt)) (rw c (omega arith))

    in_between : (vs : List Float) → InRange step_most floor vs → Between least_path most_path vs
    in_between vs i s h =
        let w = i s h in
        let x = get_or vs s nan in
        (from_least least_path x (floor + 12 * step_most) (64 * step_most) room least_path_lem under_ruled w, to_most most_path x (floor + 12 * step_most) (64 * step_most) (64 * step_most) most_path_lem (lit≤ tt) w)

    below_zero : (vs : List Float) → Bounded 0 room 0 0 vs → Between least_path (of_bits binary32 0) vs
    below_zero vs i s h =
        let w : Within (get_or vs s nan) room 0 = bounded_within i s h in
        let x = get_or vs s nan in
        (from_least least_path x room 0 room least_path_lem (lit≤ tt) w, to_most (of_bits binary32 0) x room 0 0 nothing (lit≤ tt) w)

    values_are : (i : ℕ) → (frame_at e t r pm i).values ≡ values_at Isdb.half Isdb.labels e (frame_metrics t r) pm i
    values_are = after_values Isdb.half Isdb.labels e frame_traceback (frame_metrics t r) (fresh_from pm)

    -- the call's end, as the known bits find it
    ended : Bounded 0 room 0 0 (renormalised 32 (frame_at e t r pm (frame_steps t)).values)
    ended = rw (values_are (frame_steps t)) (go (soft_call path_limits Isdb.labels small e (frame_metrics t r) (frame_steps t) soft_step falls pm start))
      where
        go : {vs : List Float} → Bounded step_most floor 0 0 vs → Bounded 0 room 0 0 vs
        go {vs} i = level vs i.count (λ s h. wider (get_or vs s nan) (floor + 12 * step_most - 0) 0 room 0 under_ruled (lit≤ tt) (bounded_within i s h)) i.best i.best_under i.best_above

    pub paths_in : path_range e t r pm
    paths_in = record {
      at_step = λ i h. rw (values_are i) (in_between (values_at Isdb.half Isdb.labels e (frame_metrics t r) pm i) (path_within path_limits Isdb.labels small e (frame_metrics t r) (frame_steps t) soft_step falls pm start i h));
      in_step = λ i h.
          rw (values_are i)
          (in_between (nexts Isdb.half Isdb.labels e (values_at Isdb.half Isdb.labels e (frame_metrics t r) pm i) (frame_metrics t r i)) (path_within_next path_limits Isdb.labels small e (frame_metrics t r) (frame_steps t) soft_step falls pm start i h));
      at_known = λ j.
          let d = pushed Isdb.half Isdb.labels e frame_traceback (frame_metrics t r) (fresh_from pm) (frame_steps t) in
          rw (after_values Isdb.half Isdb.labels e frame_traceback known_bits d j)
          (below_zero (values_at Isdb.half Isdb.labels e known_bits d.values j) (known_call_lem known_limits Isdb.labels small e room_enough (word_bit w1) d.values ended j));
    }

start_bounded : (knownStart first : Bool) → Bounded step_most floor 0 0 (start_values knownStart first)
start_bounded true first = given_bounded path_limits (start_state first)
start_bounded false first = unknown_bounded path_limits

-- the sizes that rows 7 and 8 give
pub sized_by : (re im : List Float) (m : Mapping) (scales : List Float) → ((i : ℕ) → T (fits binary64 (get_or re i nan))) → ((i : ℕ) → T (fits binary64 (get_or im i nan))) → ((i : ℕ) → T (fits binary32 (get_or scales i nan)))
    → some_of_beyond part_limit re main_symbols ≡ false → some_of_beyond part_limit im main_symbols ≡ false → some_bad scales ≡ false → Sized part_power scale_power (received_by re im m scales)
sized_by re im m scales re-fits im-fits scale-fits re-fine im-fine scales-fine = record {
  re_in = λ k h. part_size (get_or re k nan) (re-fits k) (parts_in re main_symbols re-fine k h);
  im_in = λ k h. part_size (get_or im k nan) (im-fits k) (parts_in im main_symbols im-fine k h);
  scale_in = λ c. (scales_in scales scale-fits scales-fine c).0;
  scale_up = λ c. (scales_in scales scale-fits scales-fine c).1;
}

-- ---- the theorem: an accepted call keeps to the ranges. Every value of a lent slice and a scale is one of its format, which the borrow checker tells
module _ (e : Tie) (t : Table) (re im : List Float) (m : Mapping) (scales : List Float) (decisions bits bytes counts : ℕ) (knownStart first : Bool)
    (re-fits : (i : ℕ) → T (fits binary64 (get_or re i nan))) (im-fits : (i : ℕ) → T (fits binary64 (get_or im i nan))) (scale-fits : (i : ℕ) → T (fits binary32 (get_or scales i nan)))
    (yes : Accepted ≡ first_row (decode_rows t re im scales decisions bits bytes counts))
  where
    abbrev r : Received
    r = received_by re im m scales

    p : Passed t re im scales
    p = passed t re im scales decisions bits bytes counts yes

    sized : Sized part_power scale_power r
    sized = sized_by re im m scales re-fits im-fits scale-fits p.re_fine p.im_fine p.scales_fine

    metrics_sized : (k l : ℕ) → k < frame_steps t → l < 4 → Size binary32 metric_power (get_or (metrics_at t r k) l nan)
    metrics_sized k l h g = metric_in part_power scale_power (lit≤ tt) t p.fit r sized k h l g

    metrics_rise : (k l : ℕ) → k < frame_steps t → l < 4 → Rises (metrics_at t r k) l
    metrics_rise k l h g = metric_rises part_power scale_power (lit≤ tt) t p.fit r sized k h l g

    pub frame_ranges : Ranges e t r (start_values knownStart first)
    frame_ranges = record {
      soft = λ g i n k b h. size_within soft_limit soft_limit_lem (lit≤ tt) (soft_in part_power scale_power (lit≤ tt) t p.fit r sized g i n k b h);
      metrics = λ k l h g. size_within metric_limit metric_limit_lem (lit≤ tt) (metrics_sized k l h g);
      paths = paths_in e t r metrics_sized metrics_rise (start_values knownStart first) (start_bounded knownStart first);
    }

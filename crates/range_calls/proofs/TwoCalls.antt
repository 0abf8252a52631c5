-- A run over two lists in two calls, on a decoder state that comes from a fresh start by accepted calls. Subtracting the maximum changes nothing in the path values of such a
-- state (`reached_normalised`), nor in those after n steps of soft values or metrics with n % 64 = 0. So two calls leave what one call over both lists leaves.
use Rattle.std.specs.Prelude.{◌≡◌, Bool, true, false, cond, List, ◌++◌, T, eqb, length, take, drop, Float}
use Prim.Native.Nat.{ℕ, zero, suc, ◌+◌, ◌*◌, ◌/◌, ◌%◌, ◌<◌, ◌≤◌}
use native.Mathlib.Omega.{arith}
use Rattle.std.proofs.Common.{le_refl}
use Rattle.std.proofs.Math.ListN.{get_or}
use Rattle.std.specs.Float.{nan, binary32}
use Rattle.std.specs.Float.Ieee.{of_bits}
use Rattle.ieee.proofs.Zero.{plain}
use Rattle.refusal.specs.Rows.{first_row, Accepted}
use Rattle.trellis.specs.Isdb
use Rattle.trellis.specs.Isdb.{values_at, nexts}
use Rattle.trellis.specs.ListLaws.{get_d_upto}
use Rattle.trellis.specs.Step.{Step, known, ruled}
use Rattle.trellis.specs.Run as run
use Rattle.trellis.specs.Run.{start_at, start_unknown, settled, pair_steps, four_steps, known_steps}
use Rattle.trellis.proofs.RunLaws.{after_values}
use Rattle.path_lead.specs.Complement.{small}
use Rattle.range_paths.specs.Steps.{Soft, soft_moves, Falls, soft_falls}
use Rattle.range_paths.specs.Invariant.{Bounded}
use Rattle.range_paths.proofs.Invariant.{step_bounded}
use Rattle.range_paths.proofs.Known.{known_bounded}
use Rattle.range_paths.proofs.Run.{values_bounded, settled_soft, known_call_lem}
use Rattle.range_paths.proofs.Starts.{given_bounded, unknown_bounded}
use Rattle.isdb_fec.specs.declared.conv.ViterbiDecoder.{ViterbiDecoder}
use Rattle.isdb_fec.specs.declared.conv.Released.{Released}
use Rattle.isdb_fec.specs.Rows.{push_rows, push_metrics_rows}
use Rattle.isdb_fec.specs.Calls.{steps, call, handed, Leaves}
use Rattle.viterbi_core.specs.Calls.{pair_call, four_call}
use Rattle.isdb_fec.proofs.TwoCallLaws as calls
use Rattle.isdb_fec.proofs.TwoCallLaws.{both}
use Rattle.range_calls.specs.Normalised.{Normalised, normalised_start, renormalised_twice}
use Rattle.range_calls.specs.Reached as reached
use Rattle.range_calls.specs.Reached.{Reached, Floats, with_state, unknown_state}
use Rattle.range_calls.proofs.Closed.{Fit, reached_fit, stream_inside, pair_soft, four_soft}
use Rattle.range_calls.specs.Numbers.{step_most, room}
use Rattle.range_calls.proofs.Numbers.{stream_limits, room_enough}

-- ---- the steps of a call
module _ {v : ViterbiDecoder} (i : Fit v) (start : Normalised v.pm) (decisions₀ : List ℕ) where
  -- soft values or metrics
  module _ (xs : ℕ → Step) (n : ℕ) (soft : (k : ℕ) → k < n → Soft step_most (xs k)) where
    abbrev values : ℕ → List Float
    values k = values_at xs v.pm k

    abbrev new : ℕ → List Float
    new k = nexts (values k) (xs k)

    falls : (k : ℕ) → k < n → (s : ℕ) → s < 64 → Falls step_most step_most Isdb.labels (xs k) s
    falls k h = soft_falls Isdb.labels small (soft k h)

    bounded : (k : ℕ) → k ≤ n → Bounded step_most room (k % 64 * step_most) (k % 64 * step_most) (values k)
    bounded = values_bounded stream_limits Isdb.labels small Isdb.rule xs n soft falls v.pm i.values

    new_bounded : (k : ℕ) → k < n → Bounded step_most room (k % 64 * step_most + step_most) (k % 64 * step_most + step_most) (new k)
    new_bounded k h =
        step_bounded stream_limits Isdb.labels small Isdb.rule (values k) (xs k) (soft_moves (soft k h)) (falls k h) (k % 64 * step_most) (k % 64 * step_most) (omega arith) (omega arith) (bounded k (omega arith))

    multiple : (k : ℕ) → k ≤ n → k % 64 ≡ 0 → Normalised (values k)
    unfolding run.values_at
    multiple zero h e = start
    multiple (suc k) h e =
        let last : k % 64 ≡ 63 = omega arith in
        rw (settled_soft stream_limits Isdb.labels small Isdb.rule k (new k) (soft k h), last)
        (renormalised_twice stream_limits (new k) (k % 64 * step_most + step_most) (omega arith) (new_bounded k h))

    -- after a multiple of 64 steps, and at the end of the call
    pub normalised_after : n % 64 ≡ 0 → Normalised (steps v.traceback xs (handed v decisions₀) n).values
    normalised_after e = rw (after_values Isdb.half Isdb.labels Isdb.rule v.traceback xs (handed v decisions₀) n) (multiple n (le_refl n) e)

    normalised_call : Normalised (call v.traceback xs (handed v decisions₀) n).values
    normalised_call =
        rw (after_values Isdb.half Isdb.labels Isdb.rule v.traceback xs (handed v decisions₀) n)
        (renormalised_twice stream_limits (values n) (n % 64 * step_most) (omega arith) (bounded n (le_refl n)))

  -- known bits
  known_values : (bits : List ℕ) (n : ℕ) → Normalised (values_at (known_steps bits) v.pm n)
  unfolding run.values_at settled
  known_values bits zero = start
  known_values bits (suc n) =
      let pm = values_at (known_steps bits) v.pm n in
      let b = get_or bits n 0 in
      renormalised_twice stream_limits (ruled 32 b (nexts pm (known b))) 0 (omega arith)
      (known_bounded stream_limits room_enough Isdb.labels small Isdb.rule pm b (known_call_lem stream_limits Isdb.labels small Isdb.rule room_enough (λ k. get_or bits k 0) v.pm i.values n))

  normalised_known : (bits : List ℕ) (n : ℕ) → Normalised (steps v.traceback (known_steps bits) (handed v decisions₀) n).values
  normalised_known bits n = rw (after_values Isdb.half Isdb.labels Isdb.rule v.traceback (known_steps bits) (handed v decisions₀) n) (known_values bits n)

-- ---- every such state
start_plain : (t : Bool) → T (plain (cond t (of_bits binary32 0) (of_bits binary32 0xc974_2400)))
unfolding of_bits
start_plain true = tt
start_plain false = tt

pub reached_normalised : {v : ViterbiDecoder} → Reached v → Normalised v.pm
unfolding start_at start_unknown
reached_normalised (with_state tb s e f) =
    rw f.values (normalised_start stream_limits (start_at 64 s) (given_bounded stream_limits s)
    (λ k h. rw (get_d_upto (λ k. cond (eqb k (s % 64)) (of_bits binary32 0) (of_bits binary32 0xc974_2400)) nan 64 k h) (start_plain (eqb k (s % 64)))))
reached_normalised (unknown_state tb e f) =
    rw f.values (normalised_start stream_limits (start_unknown 64) (unknown_bounded stream_limits) (λ k h. rw (get_d_upto (λ k. of_bits binary32 0) nan 64 k h) (start_plain true)))
reached_normalised (reached.push {v} pairs decisions₀ decisions out₀ out i f e l) =
    rw l.values
    (normalised_call (reached_fit i) (reached_normalised i) decisions₀ (pair_steps pairs) (length pairs / 2) (pair_soft pairs (stream_inside 2 v pairs (length decisions₀) (length out₀) f e)))
reached_normalised (reached.push_metrics {v} metrics decisions₀ decisions out₀ out i f e l) =
    rw l.values
    (normalised_call (reached_fit i) (reached_normalised i) decisions₀ (four_steps metrics) (length metrics / 4) (four_soft metrics (stream_inside 4 v metrics (length decisions₀) (length out₀) f e)))
reached_normalised (reached.push_known bits decisions₀ decisions out₀ out i e l) = rw l.values (normalised_known (reached_fit i) (reached_normalised i) decisions₀ bits (length bits))
reached_normalised (reached.flush decisions₀ decisions out₀ out i e l) = rw l.values (reached_normalised i)
reached_normalised (reached.flush_at end decisions₀ decisions out₀ out i e l) = rw l.values (reached_normalised i)

-- ---- the two calls, the first of them accepted
module _ {v : ViterbiDecoder} (i : Reached v) (r₁ r₂ : Released) (dec₀ dec₁ dec₂ out₀ out₁ out₂ : List ℕ) where
  pub two_pair_calls : (ps qs : List Float) (n : ℕ) → length ps ≡ 2 * n → n % 64 ≡ 0 → Floats ps → Accepted ≡ first_row (push_rows v ps (length dec₀) (length out₀))
      → Leaves v.traceback (pair_call v.traceback ps (handed v dec₀)) r₁ dec₀ dec₁ out₀ out₁
      → Leaves r₁.dec.traceback (pair_call r₁.dec.traceback qs (handed r₁.dec dec₁)) r₂ dec₁ dec₂ (drop r₁.count out₁) out₂
      → Leaves v.traceback (pair_call v.traceback (ps ++ qs) (handed v dec₀)) (both r₁ r₂) dec₀ dec₂ out₀ (take r₁.count out₁ ++ out₂)
  two_pair_calls ps qs n is whole f e =
      calls.two_pair_calls v r₁ r₂ dec₀ dec₁ dec₂ out₀ out₁ out₂ ps qs n is whole e
      (normalised_after (reached_fit i) (reached_normalised i) dec₀ (pair_steps ps) n (λ k h. pair_soft ps (stream_inside 2 v ps (length dec₀) (length out₀) f e) k (omega arith)) whole)

  pub two_metric_calls : (ms ns : List Float) (n : ℕ) → length ms ≡ 4 * n → n % 64 ≡ 0 → Floats ms → Accepted ≡ first_row (push_metrics_rows v ms (length dec₀) (length out₀))
      → Leaves v.traceback (four_call v.traceback ms (handed v dec₀)) r₁ dec₀ dec₁ out₀ out₁
      → Leaves r₁.dec.traceback (four_call r₁.dec.traceback ns (handed r₁.dec dec₁)) r₂ dec₁ dec₂ (drop r₁.count out₁) out₂
      → Leaves v.traceback (four_call v.traceback (ms ++ ns) (handed v dec₀)) (both r₁ r₂) dec₀ dec₂ out₀ (take r₁.count out₁ ++ out₂)
  two_metric_calls ms ns n is whole f e =
      calls.two_metric_calls v r₁ r₂ dec₀ dec₁ dec₂ out₀ out₁ out₂ ms ns n is whole e
      (normalised_after (reached_fit i) (reached_normalised i) dec₀ (four_steps ms) n (λ k h. four_soft ms (stream_inside 4 v ms (length dec₀) (length out₀) f e) k (omega arith)) whole)

-- A decoder state that comes from a fresh start by accepted calls is never refused for its own sake: its path values stay within the row's limit, it holds fewer
-- than 4,096 + traceback words, and its traceback stays.
use Rattle.std.specs.Prelude.{◌≡◌, false, List, [], ◌∷◌, ℕ, zero, suc, ◌+◌, ◌*◌, ◌/◌, ◌<◌, ◌≤◌, T, eqb, leb, ltb, get_or, length, take, Float}
use Rattle.std.proofs.Common.{sym, arith, ltb-false, eqb→eq, leb→le, ltb→lt, lit≤, length-take}
use Rattle.std.proofs.Math.Nat.{min-le_left}
use Rattle.std.specs.Float.{nan, binary32}
use Rattle.std.specs.Float.Ieee.{le, of_bits}
use Rattle.refusal.specs.Rows.{first_row, Accepted, Traceback, Sample}
use Rattle.trellis.specs.Isdb
use Rattle.trellis.specs.Step.{Step}
use Rattle.trellis.specs.Run.{Decoder, block, traceback_limit, pair_steps, four_steps, known_steps}
use Rattle.path_lead.specs.Ties.{false_of}
use Rattle.trellis.proofs.RunLaws.{after_values, depth_range}
use Rattle.path_lead.specs.Complement.{small}
use Rattle.range_paths.specs.Bounds.{Within, wider}
use Rattle.range_paths.specs.Values.{nothing, from_least, to_most}
use Rattle.range_paths.specs.Steps.{Soft, two, quad, soft_falls}
use Rattle.range_paths.specs.Invariant.{Bounded}
use Rattle.range_paths.proofs.Invariant.{bounded_within}
use Rattle.range_paths.proofs.Run.{soft_call, known_call_lem}
use Rattle.range_paths.proofs.Starts.{given_bounded, unknown_bounded}
use Rattle.isdb_fec.specs.declared.conv.ViterbiDecoder.{ViterbiDecoder}
use Rattle.isdb_fec.specs.declared.conv.Released.{Released}
use Rattle.isdb_fec.specs.Values.{some_beyond, path_limit, stream_limit}
use Rattle.isdb_fec.specs.Rows.{bad_traceback, bad_state, fresh_rows, handed_rows, stream_rows}
use Rattle.isdb_fec.specs.Calls.{call, steps, handed, Fresh, Leaves, Emits}
use Rattle.viterbi_core.specs.CountLaws.{counted}
use Rattle.refusal.proofs.RowLaws.{passed, none_accepted}
use Rattle.range_calls.specs.Inside.{inside_within, within_inside, none_beyond, all_inside}
use Rattle.range_calls.specs.Reached as reached
use Rattle.range_calls.specs.Reached.{Reached, Floats, with_state, unknown_state}
use Rattle.range_calls.specs.Numbers.{step_most, stream_most, deepest, least_path, path_most, room}
use Rattle.range_calls.proofs.Numbers.{stream_limits, path_limit_lem, stream_limit_lem, least_path_lem, room_enough}

-- what holds of every such state
pub record Fit (v : ViterbiDecoder) : Type 0 where
  pub least : 1 ≤ v.traceback
  pub most : v.traceback ≤ traceback_limit
  pub fewer : v.held < block + v.traceback
  pub values : Bounded step_most room 0 0 v.pm

-- ---- the fresh start
fresh_fit : {tb : ℕ} {pm : List Float} {v : ViterbiDecoder} → Accepted ≡ first_row (fresh_rows tb) → Bounded step_most room 0 0 pm → Fresh tb pm v → Fit v
fresh_fit {tb} {pm} {v} e b f =
    let t = depth_range tb (ltb-false traceback_limit tb (passed (fresh_rows tb) tt (sym e) Traceback)) in
    let h = f.held_is in
    let k = f.traceback_is in
    record { least = omega arith; most = omega arith; fewer = omega arith; values = rw f.values b }

-- ---- a call of steps
fewer_words : {v : ViterbiDecoder} → Fit v → (decisions₀ : List ℕ) → length (take v.held decisions₀) < block + v.traceback
fewer_words {v} i decisions₀ =
    let f = i.fewer in
    let e = length-take v.held decisions₀ in
    let m = min-le_left v.held (length decisions₀) in
    omega arith

held_fit : {v : ViterbiDecoder} → Fit v → (decisions₀ : List ℕ) (xs : ℕ → Step) (n : ℕ) → length (steps v.traceback xs (handed v decisions₀) n).words < block + v.traceback
held_fit {v} i decisions₀ xs n = (counted Isdb.half Isdb.labels Isdb.rule v.traceback xs (handed v decisions₀) i.least i.most (fewer_words i decisions₀) n).few

-- the state of a decoder d as a call hands it on
abbrev pub state_of : ℕ → Decoder → ViterbiDecoder
state_of traceback d = record { pm = d.values; held = length d.words; traceback = traceback }

-- what a call leaves whose decoder d is fit
leaves_fit : {tb : ℕ} {d : Decoder} {r : Released} {decisions₀ decisions out₀ out : List ℕ} → Fit (state_of tb d) → Leaves tb d r decisions₀ decisions out₀ out → Fit r.dec
leaves_fit i l =
    let a = i.least in
    let m = i.most in
    let f = i.fewer in
    let h = l.held_is in
    let k = l.traceback_is in
    record { least = omega arith; most = omega arith; fewer = omega arith; values = rw l.values i.values }

-- soft values or metrics
pub soft_fit : {v : ViterbiDecoder} → Fit v → (xs : ℕ → Step) (n : ℕ) → ((k : ℕ) → k < n → Soft step_most (xs k)) → (decisions₀ : List ℕ) → Fit (state_of v.traceback (call v.traceback xs (handed v decisions₀) n))
soft_fit {v} i xs n soft decisions₀ = record {
  least = i.least;
  most = i.most;
  fewer = held_fit i decisions₀ xs n;
  values = rw (after_values Isdb.half Isdb.labels Isdb.rule v.traceback xs (handed v decisions₀) n) (soft_call stream_limits Isdb.labels small Isdb.rule xs n soft (λ k h. soft_falls Isdb.labels small (soft k h)) v.pm i.values);
}

known_fit_lem : {v : ViterbiDecoder} → Fit v → (bits : List ℕ) (n : ℕ) (decisions₀ : List ℕ) → Fit (state_of v.traceback (steps v.traceback (known_steps bits) (handed v decisions₀) n))
known_fit_lem {v} i bits n decisions₀ = record {
  least = i.least;
  most = i.most;
  fewer = held_fit i decisions₀ (known_steps bits) n;
  values = rw (after_values Isdb.half Isdb.labels Isdb.rule v.traceback (known_steps bits) (handed v decisions₀) n) (known_call_lem stream_limits Isdb.labels small Isdb.rule room_enough (λ k. get_or bits k 0) v.pm i.values n);
}

-- ---- the values of an accepted stream
pub values_inside : (xs : List Float) → Floats xs → some_beyond stream_limit xs ≡ false → (i : ℕ) → i < length xs → Within (get_or xs i nan) stream_most stream_most
values_inside xs f e i h = inside_within stream_limit (get_or xs i nan) stream_most stream_limit_lem (f i) (all_inside stream_limit xs e i h)

pub stream_inside : (per : ℕ) (v : ViterbiDecoder) (xs : List Float) (decisions out : ℕ) → Floats xs → Accepted ≡ first_row (stream_rows per v xs decisions out) → (i : ℕ) → i < length xs → Within (get_or xs i nan) stream_most stream_most
stream_inside per v xs decisions out f e = values_inside xs f (passed (stream_rows per v xs decisions out) tt (sym e) Sample)

pub pair_soft : (xs : List Float) → ((i : ℕ) → i < length xs → Within (get_or xs i nan) stream_most stream_most) → (k : ℕ) → k < length xs / 2 → Soft step_most (pair_steps xs k)
pair_soft xs w k h = two stream_most (lit≤ tt) (w (2 * k) (omega arith)) (w (2 * k + 1) (omega arith))

pub four_soft : (xs : List Float) → ((i : ℕ) → i < length xs → Within (get_or xs i nan) stream_most stream_most) → (k : ℕ) → k < length xs / 4 → Soft step_most (four_steps xs k)
four_soft xs w k h = quad go
  where
    at : (i : ℕ) → i < length xs → Within (get_or xs i nan) step_most step_most
    at i l = wider (get_or xs i nan) stream_most stream_most step_most step_most (lit≤ tt) (lit≤ tt) (w i l)

    go : (l : ℕ) → l < 4 → Within (get_or (get_or xs (4 * k) nan ∷ get_or xs (4 * k + 1) nan ∷ get_or xs (4 * k + 2) nan ∷ get_or xs (4 * k + 3) nan ∷ []) l nan) step_most step_most
    go zero g = at (4 * k) (omega arith)
    go (suc zero) g = at (4 * k + 1) (omega arith)
    go (suc (suc zero)) g = at (4 * k + 2) (omega arith)
    go (suc (suc (suc zero))) g = at (4 * k + 3) (omega arith)
    go (suc (suc (suc (suc l)))) g = absurd (omega arith)

-- a flush, whatever bits it puts out
flushed_fit : {bits : List ℕ} {v : ViterbiDecoder} {r : Released} {decisions₀ decisions out₀ out : List ℕ} → Fit v → Emits bits v r decisions₀ decisions out₀ out → Fit r.dec
flushed_fit g l =
    let a = g.least in
    let m = g.most in
    let h = l.held_is in
    let k = l.traceback_is in
    record { least = omega arith; most = omega arith; fewer = omega arith; values = rw l.values g.values }

-- ---- every such state
pub reached_fit : {v : ViterbiDecoder} → Reached v → Fit v
reached_fit (with_state tb s e f) = fresh_fit e (given_bounded stream_limits s) f
reached_fit (unknown_state tb e f) = fresh_fit e (unknown_bounded stream_limits) f
reached_fit (reached.push {v} pairs decisions₀ decisions out₀ out i f e l) =
    leaves_fit (soft_fit (reached_fit i) (pair_steps pairs) (length pairs / 2) (pair_soft pairs (stream_inside 2 v pairs (length decisions₀) (length out₀) f e)) decisions₀) l
reached_fit (reached.push_metrics {v} metrics decisions₀ decisions out₀ out i f e l) =
    leaves_fit (soft_fit (reached_fit i) (four_steps metrics) (length metrics / 4) (four_soft metrics (stream_inside 4 v metrics (length decisions₀) (length out₀) f e)) decisions₀) l
reached_fit (reached.push_known bits decisions₀ decisions out₀ out i e l) = leaves_fit (known_fit_lem (reached_fit i) bits (length bits) decisions₀) l
reached_fit (reached.flush decisions₀ decisions out₀ out i e l) = flushed_fit (reached_fit i) l
reached_fit (reached.flush_at end decisions₀ decisions out₀ out i e l) = flushed_fit (reached_fit i) l

-- ---- the range of its path values: from -1,025,165,824 to 0
pub reached_values : {v : ViterbiDecoder} → Reached v → (s : ℕ) → s < 64 → T (le least_path (get_or v.pm s nan)) × T (le (get_or v.pm s nan) (of_bits binary32 0))
reached_values {v} i s h =
    let w : Within (get_or v.pm s nan) deepest 0 = bounded_within (reached_fit i).values s h in
    (from_least least_path (get_or v.pm s nan) deepest 0 deepest least_path_lem (lit≤ tt) w, to_most (of_bits binary32 0) (get_or v.pm s nan) deepest 0 0 nothing (lit≤ tt) w)

-- ---- no row of a handed state holds
pub traceback_fit : {v : ViterbiDecoder} → Fit v → bad_traceback v ≡ false
traceback_fit {v} i =
    let a = i.least in
    let m = i.most in
    rw (false_of (eqb v.traceback 0) (λ t. let e = eqb→eq v.traceback 0 t in omega arith), false_of (ltb traceback_limit v.traceback) (λ t. let l = ltb→lt traceback_limit v.traceback t in omega arith))

pub state_fit : {v : ViterbiDecoder} → Fit v → bad_state v ≡ false
state_fit {v} i =
    let f = i.fewer in
    let c = i.values.count in
    rw (
      false_of (leb (block + v.traceback) v.held) (λ t. let l = leb→le (block + v.traceback) v.held t in omega arith),
      none_beyond path_limit v.pm (λ s h. within_inside path_limit (get_or v.pm s nan) deepest 0 path_most path_limit_lem (lit≤ tt) (lit≤ tt) (bounded_within i.values s (omega arith))),
    )

-- the theorem: a state that comes from a fresh start by accepted calls is refused by none of the rows of a handed state
pub reached_rows : {v : ViterbiDecoder} → Reached v → first_row (handed_rows v) ≡ Accepted
reached_rows {v} i = let g = reached_fit i in none_accepted (handed_rows v) (traceback_fit g, (state_fit g, tt))

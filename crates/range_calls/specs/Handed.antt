-- The contract of each call, as it stands in crate isdb_fec, hands on a state that comes from a fresh start where it was handed one; refused, the caller keeps the one that it handed.
use Rattle.std.specs.Prelude.{◌≡◌, refl, List, ℕ, ◌/◌, length, Float, Result, Ok, Err, IfOk, MatchResult, is_ok}
use Rattle.std.proofs.Common.{sym, ap, true≢false}
use Rattle.refusal.specs.declared.Refusal.{Refusal}
use Rattle.refusal.specs.Rows.{first_row, answer_of}
use Rattle.refusal.proofs.RowLaws.{err_refuses}
use Rattle.trellis.specs.Run.{start_at, start_unknown, pair_steps, four_steps, known_steps}
use Rattle.isdb_fec.specs.declared.conv.ViterbiDecoder.{ViterbiDecoder}
use Rattle.isdb_fec.specs.declared.conv.Released.{Released}
use Rattle.isdb_fec.specs.Rows.{fresh_rows, push_rows, push_metrics_rows, push_known_rows, flush_rows}
use Rattle.isdb_fec.specs.Calls.{call, steps, handed, Fresh, Leaves, Flushes, FlushesAt, Unchanged}
use Rattle.range_calls.specs.Reached.{Reached, Floats, with_state, unknown_state, push, push_metrics, push_known, flush, flush_at}
use Rattle.range_calls.specs.Finished.{fresh}
use Rattle.trellis.specs.Isdb.{frame_traceback}

-- ---- a fresh start that is accepted
pub made_given : (r : Result ViterbiDecoder Refusal) (traceback state : ℕ) → answer_of r ≡ first_row (fresh_rows traceback) → IfOk r (λ v. Fresh traceback (start_at 64 state) v) → IfOk r (λ v. Reached v)
made_given (Ok v) traceback state a e = with_state traceback state a e
made_given (Err row) traceback state a e = tt

pub made_unknown : (r : Result ViterbiDecoder Refusal) (traceback : ℕ) → answer_of r ≡ first_row (fresh_rows traceback) → IfOk r (λ v. Fresh traceback (start_unknown 64) v) → IfOk r (λ v. Reached v)
made_unknown (Ok v) traceback a e = unknown_state traceback a e
made_unknown (Err row) traceback a e = tt

pub fresh_reached : (state : ℕ) → Reached (fresh state)
fresh_reached state = with_state frame_traceback state refl (record { values = refl; held_is = refl; traceback_is = refl })

-- a traceback of 128 is never refused
pub fresh_is : (r : Result ViterbiDecoder Refusal) (state : ℕ) → answer_of r ≡ first_row (fresh_rows frame_traceback) → IfOk r (λ v. Fresh frame_traceback (start_at 64 state) v) → r ≡ Ok (fresh state)
fresh_is (Ok v) state a f =
    let x = f.values in
    let y = f.held_is in
    let z = f.traceback_is in
    λ i. Ok (record { pm = x i; held = y i; traceback = z i })
fresh_is (Err row) state a f = absurd (err_refuses {row = row} a)

-- a result is not both a refusal and a value
pub not_both : {row : Refusal} {x : ViterbiDecoder} → ◌≡◌ {A = Result ViterbiDecoder Refusal} (Err row) (Ok x) → ⊥
not_both e = true≢false (sym (ap is_ok e))

-- two results that are the same have one value
pub one_value : {x y : ViterbiDecoder} → ◌≡◌ {A = Result ViterbiDecoder Refusal} (Ok x) (Ok y) → x ≡ y
one_value e = cc

-- ---- a call, accepted or refused
-- the decoder after a call that was given the decoder v: refused, it is the caller's still
abbrev pub decoder_after : ViterbiDecoder → Result Released Refusal → ViterbiDecoder
decoder_after v (Ok r) = r.dec
decoder_after v (Err _) = v

module _ {v : ViterbiDecoder} (i : Reached v) (decisions₀ decisions out₀ out : List ℕ) where
  pub push_hands : (r : Result Released Refusal) (pairs : List Float) → Floats pairs → answer_of r ≡ first_row (push_rows v pairs (length decisions₀) (length out₀))
      → MatchResult r (λ x. Leaves v.traceback (call v.traceback (pair_steps pairs) (handed v decisions₀) (length pairs / 2)) x decisions₀ decisions out₀ out) (λ _. Unchanged decisions₀ decisions out₀ out)
      → Reached (decoder_after v r)
  push_hands (Ok x) pairs f a l = push pairs decisions₀ decisions out₀ out i f a l
  push_hands (Err row) pairs f a l = i

  pub metrics_hand : (r : Result Released Refusal) (metrics : List Float) → Floats metrics → answer_of r ≡ first_row (push_metrics_rows v metrics (length decisions₀) (length out₀))
      → MatchResult r (λ x. Leaves v.traceback (call v.traceback (four_steps metrics) (handed v decisions₀) (length metrics / 4)) x decisions₀ decisions out₀ out) (λ _. Unchanged decisions₀ decisions out₀ out)
      → Reached (decoder_after v r)
  metrics_hand (Ok x) metrics f a l = push_metrics metrics decisions₀ decisions out₀ out i f a l
  metrics_hand (Err row) metrics f a l = i

  pub known_hands : (r : Result Released Refusal) (bits : List ℕ) → answer_of r ≡ first_row (push_known_rows v (length bits) (length decisions₀) (length out₀))
      → MatchResult r (λ x. Leaves v.traceback (steps v.traceback (known_steps bits) (handed v decisions₀) (length bits)) x decisions₀ decisions out₀ out) (λ _. Unchanged decisions₀ decisions out₀ out)
      → Reached (decoder_after v r)
  known_hands (Ok x) bits a l = push_known bits decisions₀ decisions out₀ out i a l
  known_hands (Err row) bits a l = i

  pub flush_hands : (r : Result Released Refusal) → answer_of r ≡ first_row (flush_rows v (length decisions₀) (length out₀))
      → MatchResult r (λ x. Flushes v x decisions₀ decisions out₀ out) (λ _. Unchanged decisions₀ decisions out₀ out)
      → Reached (decoder_after v r)
  flush_hands (Ok x) a l = flush decisions₀ decisions out₀ out i a l
  flush_hands (Err row) a l = i

  pub flush_at_hands : (r : Result Released Refusal) (end : ℕ) → answer_of r ≡ first_row (flush_rows v (length decisions₀) (length out₀))
      → MatchResult r (λ x. FlushesAt end v x decisions₀ decisions out₀ out) (λ _. Unchanged decisions₀ decisions out₀ out)
      → Reached (decoder_after v r)
  flush_at_hands (Ok x) end a l = flush_at end decisions₀ decisions out₀ out i a l
  flush_at_hands (Err row) end a l = i

-- What the calls can still answer to such a state: a stream 5, 7 or 9, known bits and a flush 9 alone.
use Rattle.std.specs.Prelude.{◌≡◌, List, [], ◌∷◌, ℕ, Float}
use Rattle.refusal.specs.Rows.{first_row, Space}
use Rattle.refusal.proofs.RowLaws.{passed_above}
use Rattle.isdb_fec.specs.declared.conv.ViterbiDecoder.{ViterbiDecoder}
use Rattle.isdb_fec.specs.Rows.{handed_rows, stream_rest, stream_rows, push_known_rows, flush_rows, steps_short, short_of}
use Rattle.range_calls.specs.Reached.{Reached}
use Rattle.range_calls.proofs.Closed.{reached_rows}

-- `push` with 2 values for each step, `push_metrics` with 4
pub stream_answer : {v : ViterbiDecoder} → Reached v → (per : ℕ) (xs : List Float) (decisions out : ℕ) → first_row (stream_rows per v xs decisions out) ≡ first_row (stream_rest per v xs decisions out)
stream_answer {v} i per xs decisions out = passed_above (handed_rows v) (stream_rest per v xs decisions out) tt (reached_rows i)

pub known_answer : {v : ViterbiDecoder} → Reached v → (n decisions out : ℕ) → first_row (push_known_rows v n decisions out) ≡ first_row ((Space, steps_short n v decisions out) ∷ [])
known_answer {v} i n decisions out = passed_above (handed_rows v) ((Space, steps_short n v decisions out) ∷ []) tt (reached_rows i)

-- `flush` and `flush_at`
pub flush_answer : {v : ViterbiDecoder} → Reached v → (decisions out : ℕ) → first_row (flush_rows v decisions out) ≡ first_row ((Space, short_of v.held v decisions out) ∷ [])
flush_answer {v} i decisions out = passed_above (handed_rows v) ((Space, short_of v.held v decisions out) ∷ []) tt (reached_rows i)

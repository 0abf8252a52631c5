-- P7: "length 7 with 171 and 133 octal agrees with the existing pair on every input", of the C calls: the rows of the call of the code at these numbers and those of ISDB's
-- call give one answer, for path values of any length and any content.
use Rattle.std.specs.Prelude.{◌≡◌, List, ℕ, take, Float}
use Rattle.std.proofs.Math.Path.{refl}
use Rattle.trellis.specs.Lists.{first_place}
use Rattle.trellis.specs.Isdb
use Rattle.isdb_fec.specs.Rows as isdb
use Rattle.short_fec.specs.Rows as short
use Rattle.short_same_code.specs.IsdbCode.{isdb_code}
use Rattle.c_answers.specs.Answers.{answered}
use Rattle.c_answers.specs.Lengths.{with_states}
use Rattle.c_decoder.specs.Decoders.{decoder_of}
use Rattle.c_short.specs.Stored.{code_from}

-- the code of ISDB by its three numbers
pub code_is : code_from 7 0o171 0o133 ≡ isdb_code
code_is = refl

-- path values, the held count and the traceback as C lends them; the lengths of the lent decisions and output
module _ (pm : List Float) (held tb : ℕ) (decisions out : ℕ) where
  -- soft values or metrics, `per` for each step
  pub stream_answers : (per : ℕ) (xs : List Float)
      → answered (with_states pm (short.stream_rows isdb_code per (decoder_of pm held tb) xs decisions out)) ≡ answered (with_states pm (isdb.stream_rows per (decoder_of (take Isdb.states pm) held tb) xs decisions out))
  unfolding first_place
  stream_answers per xs = refl

  -- `isdb_code_push` and `isdb_push`
  pub push_answers : (xs : List Float)
      → answered (with_states pm (short.stream_rows isdb_code 2 (decoder_of pm held tb) xs decisions out)) ≡ answered (with_states pm (isdb.push_rows (decoder_of (take Isdb.states pm) held tb) xs decisions out))
  push_answers = stream_answers 2

  -- `isdb_code_push_metrics` and `isdb_push_metrics`
  pub push_metrics_answers : (xs : List Float)
      → answered (with_states pm (short.stream_rows isdb_code 4 (decoder_of pm held tb) xs decisions out)) ≡ answered (with_states pm (isdb.push_metrics_rows (decoder_of (take Isdb.states pm) held tb) xs decisions out))
  push_metrics_answers = stream_answers 4

  -- `isdb_code_push_known` and `isdb_push_known`, of n bits
  pub push_known_answers : (n : ℕ)
      → answered (with_states pm (short.known_rows isdb_code (decoder_of pm held tb) n decisions out)) ≡ answered (with_states pm (isdb.push_known_rows (decoder_of (take Isdb.states pm) held tb) n decisions out))
  unfolding first_place
  push_known_answers n = refl

  -- `isdb_code_flush` and `isdb_flush`, `isdb_code_flush_at` and `isdb_flush_at`: the state that is traced from stands in no row
  pub flush_answers :
      answered (with_states pm (short.flush_rows isdb_code (decoder_of pm held tb) decisions out)) ≡ answered (with_states pm (isdb.flush_rows (decoder_of (take Isdb.states pm) held tb) decisions out))
  unfolding first_place
  flush_answers = refl

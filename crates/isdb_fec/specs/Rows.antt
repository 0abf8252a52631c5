-- The refusal rows of each call, in document 01's order.
use Rattle.std.specs.Prelude.{Bool, not, ◌||◌, List, [], ◌∷◌, ℕ, ◌/◌, ◌%◌, eqb, leb, ltb, length, Float}
use Rattle.refusal.specs.Rows.{Row, Traceback, State, Length, Sample, Space}
use Rattle.trellis.specs.Isdb.{frame_words}
use Rattle.trellis.specs.Run.{traceback_limit}
use Rattle.viterbi_rows.specs.Values.{some_beyond, stream_limit}
use Rattle.viterbi_rows.specs.Rows as handed
use Rattle.isdb_fec.specs.declared.conv.ViterbiDecoder.{ViterbiDecoder}
use Rattle.trellis.specs.Isdb

-- 4: "encoder state above 63"
abbrev pub encoder_rows : ℕ → List Row
encoder_rows s = (State, leb Isdb.states s) ∷ []

-- 3: "above 1,024", of a traceback that is given
abbrev pub fresh_rows : ℕ → List Row
fresh_rows tb = (Traceback, ltb traceback_limit tb) ∷ []

-- the tests of rows 3, 4 and 9 of a handed decoder
abbrev pub bad_traceback : ViterbiDecoder → Bool
bad_traceback v = handed.bad_traceback v.traceback

abbrev pub bad_state : ViterbiDecoder → Bool
bad_state v = handed.bad_state v.pm v.held v.traceback

abbrev pub short_of : ℕ → ViterbiDecoder → ℕ → ℕ → Bool
short_of bits v decisions out = handed.short_of bits v.traceback decisions out

abbrev pub steps_short : ℕ → ViterbiDecoder → ℕ → ℕ → Bool
steps_short n v decisions out = handed.steps_short n v.held v.traceback decisions out

-- the rows of a handed decoder alone
abbrev pub handed_rows : ViterbiDecoder → List Row
handed_rows v = handed.handed_rows v.pm v.held v.traceback

-- and those below them of a call of soft values or metrics, `per` for each step
abbrev pub stream_rest : ℕ → ViterbiDecoder → List Float → ℕ → ℕ → List Row
stream_rest per v xs decisions out = handed.stream_rest per v.held v.traceback xs decisions out

abbrev pub stream_rows : ℕ → ViterbiDecoder → List Float → ℕ → ℕ → List Row
stream_rows per v xs decisions out = handed.stream_rows per v.pm v.held v.traceback xs decisions out

-- a reading of metrics by a fresh decoder of traceback 128: 5 "metrics not in fours"; 7 "not finite; beyond .. 1,048,576 for a stream value"; 9, a place for each
-- bit, and "decisions always need 4,096 + traceback"
abbrev pub reading_rows : List Float → ℕ → ℕ → List Row
reading_rows xs decisions out =
    (Length, not (eqb (length xs % 4) 0)) ∷ (Sample, some_beyond stream_limit xs) ∷ (Space, ltb out (length xs / 4) || ltb decisions frame_words) ∷ []

-- 5: "soft values not in twos"
abbrev pub push_rows : ViterbiDecoder → List Float → ℕ → ℕ → List Row
push_rows = stream_rows 2

-- 5: "metrics not in fours"
abbrev pub push_metrics_rows : ViterbiDecoder → List Float → ℕ → ℕ → List Row
push_metrics_rows = stream_rows 4

-- a call of n known bits
abbrev pub push_known_rows : ViterbiDecoder → ℕ → ℕ → ℕ → List Row
push_known_rows v n decisions out = handed.known_rows v.pm v.held v.traceback n decisions out

abbrev pub flush_rows : ViterbiDecoder → ℕ → ℕ → List Row
flush_rows v decisions out = handed.flush_rows v.pm v.held v.traceback decisions out

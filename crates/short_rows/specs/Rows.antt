-- The refusal rows of each call: those of isdb_fec with row 12 right before 4.
use Rattle.std.specs.Prelude.{Bool, not, ◌||◌, List, [], ◌∷◌, ◌++◌, ℕ, ◌+◌, ◌-◌, ◌*◌, ◌/◌, ◌%◌, eqb, leb, ltb, length, take, Float}
use Rattle.refusal.specs.Rows.{Row}
use Rattle.refusal.specs.Rows as answer
use Rattle.trellis.specs.Run.{block}
use Rattle.isdb_fec.specs.declared.conv.ViterbiDecoder.{ViterbiDecoder}
use Rattle.isdb_fec.specs.Values.{some_beyond, path_limit}
use Rattle.isdb_fec.specs.Rows as isdb
use Rattle.isdb_fec.specs.Rows.{bad_traceback, short_of, steps_short, stream_rest}
use Rattle.short_code.specs.declared.Code.{Code}
use Rattle.short_code.specs.Codes.{good_code, states_of}

-- 12: "a length or generator outside these"
abbrev pub code_rows : Code → List Row
code_rows c = (answer.Code, not (good_code c)) ∷ []

-- 4: "The limit 63 on an encoder state in refusal 4 becomes 2^(length-1) - 1"
abbrev pub encoder_rows : Code → ℕ → List Row
encoder_rows c s = (answer.Code, not (good_code c)) ∷ (answer.State, leb (states_of c) s) ∷ []

-- 9: X and Y of n inputs
abbrev pub encode_rows : Code → ℕ → ℕ → ℕ → List Row
encode_rows c s n out = encoder_rows c s ++ (answer.Space, ltb out (2 * n)) ∷ []

-- 3, and 12
abbrev pub fresh_rows : Code → ℕ → List Row
fresh_rows c tb = isdb.fresh_rows tb ++ code_rows c

-- 4: of the path values only those of states count; those past the last state are "unread"
abbrev pub bad_state : Code → ViterbiDecoder → Bool
bad_state c v = leb (block + v.traceback) v.held || some_beyond path_limit (take (states_of c) v.pm)

abbrev pub handed_rows : Code → ViterbiDecoder → List Row
handed_rows c v = (answer.Traceback, bad_traceback v) ∷ (answer.Code, not (good_code c)) ∷ (answer.State, bad_state c v) ∷ []

-- a call of soft values or metrics, `per` for each step; of n known bits; a flush
abbrev pub stream_rows : Code → ℕ → ViterbiDecoder → List Float → ℕ → ℕ → List Row
stream_rows c per v xs decisions out = handed_rows c v ++ stream_rest per v xs decisions out

abbrev pub known_rows : Code → ViterbiDecoder → ℕ → ℕ → ℕ → List Row
known_rows c v n decisions out = handed_rows c v ++ (answer.Space, steps_short n v decisions out) ∷ []

abbrev pub flush_rows : Code → ViterbiDecoder → ℕ → ℕ → List Row
flush_rows c v decisions out = handed_rows c v ++ (answer.Space, short_of v.held v decisions out) ∷ []

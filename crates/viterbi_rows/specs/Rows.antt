-- The refusal rows of a call on a handed state, in document 01's order: its path values, the words that it holds, and its traceback.
use Rattle.std.specs.Prelude.{Bool, not, ◌||◌, List, [], ◌∷◌, ◌++◌, ℕ, ◌+◌, ◌*◌, ◌/◌, ◌%◌, eqb, leb, ltb, length, Float}
use Rattle.refusal.specs.Rows.{Row, Traceback, State, Length, Sample, Space}
use Rattle.trellis.specs.Run.{block, traceback_limit, releases}
use Rattle.viterbi_rows.specs.Values.{some_beyond, path_limit, stream_limit}

-- 3: "above 1,024, or 0 in a handed state"
abbrev pub bad_traceback : ℕ → Bool
bad_traceback tb = eqb tb 0 || ltb traceback_limit tb

-- 4: "held count 4,096 + traceback or more; .. path value not finite or beyond 2^32"
abbrev pub bad_state : List Float → ℕ → ℕ → Bool
bad_state pm held tb = leb (block + tb) held || some_beyond path_limit pm

-- 9: "a lent output or decision slice shorter than this call writes; decisions always need 4,096 + traceback". The call writes `bits` places of
-- an output of `out` places; `decisions` is the length of the other slice.
abbrev pub short_of : ℕ → ℕ → ℕ → ℕ → Bool
short_of bits tb decisions out = ltb out bits || ltb decisions (block + tb)

abbrev pub steps_short : ℕ → ℕ → ℕ → ℕ → ℕ → Bool
steps_short n held tb decisions out = short_of (block * releases tb held n) tb decisions out

-- the rows of a handed state alone
abbrev pub handed_rows : List Float → ℕ → ℕ → List Row
handed_rows pm held tb = (Traceback, bad_traceback tb) ∷ (State, bad_state pm held tb) ∷ []

-- and those below them of a call of soft values or metrics, `per` for each step
abbrev pub stream_rest : ℕ → ℕ → ℕ → List Float → ℕ → ℕ → List Row
stream_rest per held tb xs decisions out =
    (Length, not (eqb (length xs % per) 0)) ∷ (Sample, some_beyond stream_limit xs) ∷ (Space, steps_short (length xs / per) held tb decisions out) ∷ []

abbrev pub stream_rows : ℕ → List Float → ℕ → ℕ → List Float → ℕ → ℕ → List Row
stream_rows per pm held tb xs decisions out = handed_rows pm held tb ++ stream_rest per held tb xs decisions out

-- a call of n known bits
abbrev pub known_rows : List Float → ℕ → ℕ → ℕ → ℕ → ℕ → List Row
known_rows pm held tb n decisions out = handed_rows pm held tb ++ (Space, steps_short n held tb decisions out) ∷ []

abbrev pub flush_rows : List Float → ℕ → ℕ → ℕ → ℕ → List Row
flush_rows pm held tb decisions out = handed_rows pm held tb ++ (Space, short_of held tb decisions out) ∷ []

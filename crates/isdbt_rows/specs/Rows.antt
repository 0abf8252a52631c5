-- The refusal rows of each call, in document 01's order.
use Rattle.std.specs.Prelude.{Bool, not, ◌||◌, List, [], ◌∷◌, ℕ, ◌+◌, ◌*◌, ◌/◌, ◌%◌, eqb, leb, ltb, length, Float}
use Rattle.refusal.specs.Rows.{Row, Traceback, State, Length, Sample, Space}
use Rattle.trellis.specs.Run.{block, traceback_limit, depth}
use Rattle.isdb_fec.specs.Values.{some_beyond, stream_limit}
use Rattle.isdbt_table.specs.declared.CodeRate.{CodeRate}
use Rattle.isdbt_table.specs.Table.{period, sent}
use Rattle.trellis.specs.Isdb

-- 5: "stream not whole periods", of values that come `per` for each period
abbrev pub broken : ℕ → ℕ → Bool
broken per count = not (eqb (count % per) 0)

-- `count` bytes from the state s into `out` places
abbrev pub encode_rows : CodeRate → ℕ → ℕ → ℕ → List Row
encode_rows rate s count out =
    (State, leb Isdb.states s) ∷ (Length, broken (period rate) count) ∷ (Space, ltb out (count / period rate * sent rate)) ∷ []

-- `count` soft values into `out` places. "`depuncture` only copies, so 7 isn't checked there."
abbrev pub depuncture_rows : CodeRate → ℕ → ℕ → List Row
depuncture_rows rate count out = (Length, broken (sent rate) count) ∷ (Space, ltb out (count / sent rate * (2 * period rate))) ∷ []

-- the soft values xs into `out` places, with `decisions` words
abbrev pub decode_rows : CodeRate → List Float → ℕ → ℕ → ℕ → List Row
decode_rows rate xs tb decisions out =
    (Traceback, ltb traceback_limit tb) ∷ (Length, broken (sent rate) (length xs)) ∷ (Sample, some_beyond stream_limit xs)
    ∷ (Space, ltb out (length xs / sent rate * period rate) || ltb decisions (block + depth tb))
    ∷ []

-- Request P6, "A stretch with a known end": `with_state`, `push`, and `flush_at` behind the bits that came out.
use Rattle.std.specs.Prelude.{◌≡◌, cond, not, ◌||◌, List, [], ◌∷◌, ◌++◌, ℕ, ◌+◌, ◌/◌, ◌%◌, ◌≤◌, eqb, ltb, length, take, Float, Result, Ok, MatchResult}
use Rattle.refusal.specs.Rows.{Row, first_row, Length, Sample, Space}
use Rattle.trellis.specs.Code.{isdb}
use Rattle.trellis.specs.Encoded.{encoded, reached}
use Rattle.trellis.specs.Isdb.{flush_at}
use Rattle.trellis.specs.Run.{Decoder, block, depth, fresh_from, start_at, traceback_limit, pair_steps}
use Rattle.trellis.specs.Stretch.{differing, Bits, Coded}
use Rattle.path_greatest.specs.Hard.{most_wrong, soft_pairs}
use Rattle.path_greatest.specs.Paths.{longest}
use Rattle.isdb_fec.specs.declared.conv.ViterbiDecoder.{ViterbiDecoder}
use Rattle.isdb_fec.specs.declared.conv.Released.{Released}
use Rattle.isdb_fec.specs.Values.{some_beyond, stream_limit}
use Rattle.isdb_fec.specs.Rows.{fresh_rows}
use Rattle.isdb_fec.specs.Calls.{call, Unchanged}
use Rattle.range_calls.specs.declared.TurnedBack.{TurnedBack}
use Rattle.range_calls.specs.Finished.{Finished}
use Rattle.range_calls.specs.Turned.{zeros, row_of}
use Rattle.trellis.specs.Isdb

-- what a reading makes first: the fresh decoder, or all zeros for a traceback that is refused
abbrev pub fresh : ℕ → ℕ → ViterbiDecoder
fresh tb s = cond (ltb traceback_limit tb) zeros (record { pm = start_at Isdb.states s; held = 0; traceback = depth tb })

-- the decoder with its held words and its bits once the soft values xs have been pushed
abbrev pub read : ℕ → ℕ → List Float → Decoder
read tb s xs = call (depth tb) (pair_steps xs) (fresh_from (start_at Isdb.states s)) (length xs / 2)

-- the rows of a reading that is lent `decisions` words and `out` places: 3; 5 "soft values not in twos"; 7 "not finite; beyond .. 1,048,576 for a stream value";
-- 9, a place for each bit, and "decisions always need 4,096 + traceback"
abbrev pub between_rows : ℕ → List Float → ℕ → ℕ → List Row
between_rows tb xs decisions out =
    fresh_rows tb ++ (Length, not (eqb (length xs % 2) 0)) ∷ (Sample, some_beyond stream_limit xs) ∷ (Space, ltb out (length xs / 2) || ltb decisions (block + depth tb)) ∷ []

-- accepted, all bits are put out, one for each pair; refused, the fresh decoder and the lent memory are as they were
abbrev pub Left : ℕ → ℕ → ℕ → List Float → Result Released TurnedBack → List ℕ → List ℕ → List ℕ → List ℕ → Type 0
Left tb s e xs r decisions₀ decisions out₀ out =
    MatchResult r (λ x. Finished (depth tb) (flush_at e (read tb s xs)).bits (read tb s xs) x decisions₀ decisions out₀ out) (λ t. (t.dec ≡ fresh tb s) × Unchanged decisions₀ decisions out₀ out)

-- "For an unpunctured stretch of at most 4,096 inputs, with a fresh decoder at the true start, soft pairs of +1 for a 0 bit or -1 for a 1 bit and the true end given, at most four
-- wrong coded bits leave the decoded inputs right": the inputs us lead from the start to the end, and the received pairs ps differ from their coded pairs in at most four bits. Such
-- a stretch is refused by 9 alone.
abbrev pub Corrects : ℕ → ℕ → ℕ → List Float → Result Released TurnedBack → ℕ → ℕ → List ℕ → Type 0
Corrects tb s e xs r decisions space out =
    (us ps : List ℕ) → tb ≤ traceback_limit → length us ≤ longest → Bits us → reached isdb (s % Isdb.states) us ≡ e % Isdb.states
    → Coded ps → length ps ≡ length us → differing ps (encoded isdb (s % Isdb.states) us) ≤ most_wrong → xs ≡ soft_pairs ps
    → (row_of r ≡ first_row ((Space, ltb space (length us) || ltb decisions (block + depth tb)) ∷ []))
    × ((x : Released) → r ≡ Ok x → (x.count ≡ length us) × (take (length us) out ≡ us))

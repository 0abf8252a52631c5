-- What each call leaves: the decoder of crate trellis at a code's half, labels and ISDB's tie-break, on the path values of the code's states. "Path
-- values past the last state are 0 in a fresh state, unread and kept".
use Rattle.std.specs.Prelude.{List, ℕ, ◌-◌, ◌%◌, take, replicate, Float}
use Rattle.std.specs.Float.{binary32}
use Rattle.std.specs.Float.Ieee.{of_bits}
use Rattle.trellis.specs.Lists.{laid}
use Rattle.trellis.specs.Step.{Step, traced, best}
use Rattle.trellis.specs.Run.{Decoder, after, pushed, start_at, start_unknown, holding}
use Rattle.trellis.specs.Isdb.{rule}
use Rattle.isdb_fec.specs.declared.conv.ViterbiDecoder.{ViterbiDecoder}
use Rattle.isdb_fec.specs.declared.conv.Released.{Released}
use Rattle.isdb_fec.specs.Calls as isdb
use Rattle.short_code.specs.declared.Code.{Code}
use Rattle.short_code.specs.Codes.{labels, half_of, states_of}
use Rattle.trellis.specs.Isdb

-- ---- the decoder
abbrev zeros : List Float
zeros = replicate Isdb.states (of_bits binary32 0)

-- a fresh state: "decoder start .. states are taken mod 2^(length-1)"
abbrev pub start_values : Code → ℕ → List Float
start_values c s = laid (start_at (states_of c) s) zeros

abbrev pub unknown_values : Code → List Float
unknown_values c = laid (start_unknown (states_of c)) zeros

-- a decoder as the path values of its states and the front of the lent decisions hold it
abbrev pub handed : Code → ViterbiDecoder → List ℕ → Decoder
handed c v decisions = holding (take (states_of c) v.pm) v.held decisions

-- n steps of a call; a call of soft values or metrics
abbrev pub steps : Code → ℕ → (ℕ → Step) → Decoder → ℕ → Decoder
steps c = after (half_of c) (labels c) rule

abbrev pub call : Code → ℕ → (ℕ → Step) → Decoder → ℕ → Decoder
call c = pushed (half_of c) (labels c) rule

-- the decoder d with its path values over the first of pm
abbrev pub over : List Float → Decoder → Decoder
over pm d = record { values = laid d.values pm; words = d.words; bits = d.bits }

-- what an accepted call of the decoder v leaves, whole
abbrev pub Leaves : ViterbiDecoder → Decoder → Released → List ℕ → List ℕ → List ℕ → List ℕ → Type 0
Leaves v d = isdb.Leaves v.traceback (over v.pm d)

-- a flush that traces from the state s: "Flush emits all held bits and zeroes their words; path values stay"
abbrev pub Flushes : Code → ViterbiDecoder → ℕ → Released → List ℕ → List ℕ → List ℕ → List ℕ → Type 0
Flushes c v s r decisions₀ = isdb.Emits (traced (half_of c) (take v.held decisions₀) s) v r decisions₀

-- the best state, and a known end: "known end states are taken mod 2^(length-1)"
abbrev pub best_of : Code → ViterbiDecoder → ℕ
best_of c v = best rule (take (states_of c) v.pm) (states_of c - 1)

abbrev pub end_of : Code → ℕ → ℕ
end_of c e = e % states_of c

-- The decoder states that come from a fresh start by accepted calls, in any order and number: each case takes what the contract of the call says of an
-- accepted call. The calls are those of crate isdb_fec, module conv.
use Rattle.std.specs.Prelude.{◌≡◌, List, ℕ, ◌/◌, T, get_or, length, Float}
use Rattle.std.specs.Float.{nan, binary32}
use Rattle.std.specs.Float.Ieee.{fits}
use Rattle.refusal.specs.Rows.{first_row, Accepted}
use Rattle.trellis.specs.Run.{start_at, start_unknown, pair_steps, four_steps, known_steps}
use Rattle.isdb_fec.specs.declared.conv.ViterbiDecoder.{ViterbiDecoder}
use Rattle.isdb_fec.specs.declared.conv.Released.{Released}
use Rattle.isdb_fec.specs.Rows.{fresh_rows, push_rows, push_metrics_rows, push_known_rows, flush_rows}
use Rattle.isdb_fec.specs.Calls.{call, steps, handed, Fresh, Leaves, Flushes, FlushesAt}
use Rattle.trellis.specs.Isdb

-- every value of a lent f32 slice is one of the format's; the borrow checker tells it of each slice
abbrev pub Floats : List Float → Type 0
Floats xs = (i : ℕ) → T (fits binary32 (get_or xs i nan))

pub data Reached : ViterbiDecoder → Type 0 where
  -- `new` is `with_state` at 0
  with_state : {v : ViterbiDecoder} (traceback state : ℕ) → Accepted ≡ first_row (fresh_rows traceback) → Fresh traceback (start_at Isdb.states state) v → Reached v
  unknown_state : {v : ViterbiDecoder} (traceback : ℕ) → Accepted ≡ first_row (fresh_rows traceback) → Fresh traceback (start_unknown Isdb.states) v → Reached v
  push : {v : ViterbiDecoder} {r : Released} (pairs : List Float) (decisions₀ decisions out₀ out : List ℕ) → Reached v → Floats pairs
      → Accepted ≡ first_row (push_rows v pairs (length decisions₀) (length out₀))
      → Leaves v.traceback (call v.traceback (pair_steps pairs) (handed v decisions₀) (length pairs / 2)) r decisions₀ decisions out₀ out
      → Reached r.dec
  push_metrics : {v : ViterbiDecoder} {r : Released} (metrics : List Float) (decisions₀ decisions out₀ out : List ℕ) → Reached v → Floats metrics
      → Accepted ≡ first_row (push_metrics_rows v metrics (length decisions₀) (length out₀))
      → Leaves v.traceback (call v.traceback (four_steps metrics) (handed v decisions₀) (length metrics / 4)) r decisions₀ decisions out₀ out
      → Reached r.dec
  push_known : {v : ViterbiDecoder} {r : Released} (bits : List ℕ) (decisions₀ decisions out₀ out : List ℕ) → Reached v
      → Accepted ≡ first_row (push_known_rows v (length bits) (length decisions₀) (length out₀))
      → Leaves v.traceback (steps v.traceback (known_steps bits) (handed v decisions₀) (length bits)) r decisions₀ decisions out₀ out
      → Reached r.dec
  flush : {v : ViterbiDecoder} {r : Released} (decisions₀ decisions out₀ out : List ℕ) → Reached v
      → Accepted ≡ first_row (flush_rows v (length decisions₀) (length out₀))
      → Flushes v r decisions₀ decisions out₀ out
      → Reached r.dec
  flush_at : {v : ViterbiDecoder} {r : Released} (end : ℕ) (decisions₀ decisions out₀ out : List ℕ) → Reached v
      → Accepted ≡ first_row (flush_rows v (length decisions₀) (length out₀))
      → FlushesAt end v r decisions₀ decisions out₀ out
      → Reached r.dec

-- A reading: a fresh decoder of traceback 128, `push_metrics`, `flush` behind the bits that came out.
use Rattle.std.specs.Prelude.{◌≡◌, List, [], ◌++◌, ℕ, ◌+◌, ◌-◌, ◌*◌, ◌/◌, ◌≤◌, ℤ, length, take, drop, Float, Result, Ok, Err, MatchResult}
use Rattle.refusal.specs.declared.Refusal.{Refusal}
use Rattle.refusal.specs.Rows.{first_row, answer_of}
use Rattle.trellis.specs.Isdb
use Rattle.trellis.specs.Run.{Decoder, block, quadruple, four_steps}
use Rattle.path_greatest.specs.Paths.{longest, Quadruples, Reading}
use Rattle.isdb_fec.specs.declared.conv.ViterbiDecoder.{ViterbiDecoder}
use Rattle.isdb_fec.specs.declared.conv.Released.{Released}
use Rattle.isdb_fec.specs.Rows.{flush_rows}
use Rattle.isdb_fec.specs.Calls.{call, flush, Flushes, Unchanged}
use Rattle.range_calls.specs.declared.TurnedBack.{TurnedBack}
use Rattle.range_calls.specs.Finished.{Finished}
use Rattle.path_greatest.specs.declared.Start.{Start}
use Rattle.path_greatest.specs.Fresh.{start_values, StartsIn}
use Rattle.trellis.specs.Isdb.{frame_traceback}

-- the fresh decoder, and the decoder with its held words and its bits once the metrics xs have been pushed
abbrev pub fresh : Start → ViterbiDecoder
fresh start = record { pm = start_values Isdb.states start; held = 0; traceback = frame_traceback }

abbrev pub read : Start → List Float → Decoder
read start xs = call frame_traceback (four_steps xs) (record { values = start_values Isdb.states start; words = []; bits = [] }) (length xs / 4)

-- the state of a decoder of traceback 128 whose words are held in the lent decisions
abbrev pub state_of : Decoder → ViterbiDecoder
state_of d = record { pm = d.values; held = length d.words; traceback = frame_traceback }

-- the flush of what a call left, behind the bits that it put out: the answer is the flush's own
abbrev pub with_before : ℕ → Result Released Refusal → Result Released Refusal
with_before count (Ok rest) = Ok (record { dec = rest.dec; count = count + rest.count })
with_before count (Err row) = Err row

pub record Flushed (before : Released) (after : Result Released Refusal) (decisions₀ decisions out₀ out : List ℕ) : Type 0 where
  pub rest : Result Released Refusal
  pub end : List ℕ
  pub answers : answer_of rest ≡ first_row (flush_rows before.dec (length decisions₀) (length out₀ - before.count))
  pub leaves : MatchResult rest (λ r. Flushes before.dec r decisions₀ decisions (drop before.count out₀) end) (λ _. Unchanged decisions₀ decisions (drop before.count out₀) end)
  pub out_is : out ≡ take before.count out₀ ++ end
  pub after_is : after ≡ with_before before.count rest

-- accepted, all bits are put out, one for each quadruple; refused, the fresh decoder and the lent memory are as they were
abbrev pub Left : Start → List Float → Result Released TurnedBack → List ℕ → List ℕ → List ℕ → List ℕ → Type 0
Left start xs r decisions₀ decisions out₀ out =
    MatchResult r (λ x. Finished frame_traceback (flush (read start xs)).bits (read start xs) x decisions₀ decisions out₀ out) (λ t. (t.dec ≡ fresh start) × Unchanged decisions₀ decisions out₀ out)

-- Viterbi's rule: of at most 4,096 quadruples of whole numbers within 16 of 0, with memory enough lent, the reading is accepted, has a bit for
-- each quadruple, and its bits are the inputs of the first path of greatest sum from the given start, or from any where none is given
-- (`Reading.best`); any path from there with the greatest sum and none of that sum before it is the one returned (`Reading.only`)
abbrev pub GreatestSum : Start → List Float → Result Released TurnedBack → ℕ → ℕ → List ℕ → Type 0
GreatestSum start xs r decisions space out =
    (n : ℕ) (m : ℕ → ℕ → ℤ) → length xs ≡ 4 * n → n ≤ longest → Quadruples (quadruple xs) m n → block + frame_traceback ≤ decisions → n ≤ space
    → (x : Released) × (r ≡ Ok x) × (x.count ≡ n) × Reading Isdb.half Isdb.labels Isdb.rule (StartsIn Isdb.states start) m n (take n out)

-- What the three calls in a row leave and read. Definitions only.
use Rattle.std.specs.Prelude.{◌≡◌, true, List, ℕ, ◌*◌, ◌/◌, ◌≤◌, ℤ, length, take, replicate, Float, Result, Ok, Err, MatchResult}
use Rattle.std.specs.Float.{binary32}
use Rattle.std.specs.Float.Ieee.{of_bits}
use Rattle.refusal.specs.declared.Refusal.{Refusal}
use Rattle.refusal.specs.Rows.{first_row, answer_of, Traceback}
use Rattle.trellis.specs.Isdb.{rule, states, frame_words}
use Rattle.trellis.specs.Lists.{laid}
use Rattle.trellis.specs.Run.{quadruple, four_steps}
use Rattle.isdb_fec.specs.declared.conv.ViterbiDecoder.{ViterbiDecoder}
use Rattle.isdb_fec.specs.declared.conv.Released.{Released}
use Rattle.isdb_fec.specs.Calls.{Unchanged}
use Rattle.range_calls.specs.Handed.{decoder_after}
use Rattle.range_calls.specs.Turned.{zeros}
use Rattle.path_greatest.specs.Paths.{longest, Quadruples, Reading}
use Rattle.path_greatest.specs.declared.Start.{Start}
use Rattle.path_greatest.specs.Fresh.{start_values, StartsIn}
use Rattle.short_code.specs.declared.Code.{Code}
use Rattle.short_code.specs.Codes.{labels, half_of, states_of, good_code}
use Rattle.short_fec.specs.Rows.{stream_rows, flush_rows}
use Rattle.short_fec.specs.Calls.{call, handed, best_of, Leaves, Flushes}
use Rattle.short_calls.specs.declared.Three.{Three}

-- the path values of a fresh decoder: those of the states, and 0 past them
abbrev pub fresh_values : Code → Start → List Float
fresh_values c start = laid (start_values (states_of c) start) (replicate states (of_bits binary32 0))

-- the decoder that `push_metrics` is given: the one that was made, or zeros in place of one that is refused
abbrev pub made_or_zeros : Result ViterbiDecoder Refusal → ViterbiDecoder
made_or_zeros (Ok v) = v
made_or_zeros (Err _) = zeros

-- what `push_metrics` on that decoder and `flush` on the one that it left say, of every input. The lent slices between the two are `words` and `sent`:
-- what `push-leaves` says they are
pub record PushedFlushed (c : Code) (xs : List Float) (r : Three) (decisions₀ decisions out₀ out : List ℕ) : Type 0 where
  pub words : List ℕ
  pub sent : List ℕ
  pub push_answers : answer_of r.pushed ≡ first_row (stream_rows c 4 (made_or_zeros r.made) xs (length decisions₀) (length out₀))
  pub push_leaves :
      MatchResult r.pushed
      (λ p. Leaves (made_or_zeros r.made) (call c (made_or_zeros r.made).traceback (four_steps xs) (handed c (made_or_zeros r.made) decisions₀) (length xs / 4)) p decisions₀ words out₀ sent)
      (λ _. Unchanged decisions₀ words out₀ sent)
  pub flush_answers : answer_of r.flushed ≡ first_row (flush_rows c (decoder_after (made_or_zeros r.made) r.pushed) (length words) (length sent))
  pub flush_leaves :
      MatchResult r.flushed
      (λ f. Flushes c (decoder_after (made_or_zeros r.made) r.pushed) (best_of c (decoder_after (made_or_zeros r.made) r.pushed)) f words decisions sent out)
      (λ _. Unchanged words decisions sent out)

-- where the start is refused, the other two refuse the zeros by row 3, and nothing lent changes
abbrev pub Unmade : Three → List ℕ → List ℕ → List ℕ → List ℕ → Type 0
Unmade r decisions₀ decisions out₀ out =
    (answer_of r.pushed ≡ Traceback) × (answer_of r.flushed ≡ Traceback) × Unchanged decisions₀ decisions out₀ out

-- of at most 4,096 quadruples of whole numbers within 16, with memory enough lent, all accept, and the bits are those of the first path of greatest sum
pub record ThreeRead (c : Code) (start : Start) (xs : List Float) (r : Three) (decisions out : ℕ) (bits : List ℕ) : Type 0 where
  pub reads : (n : ℕ) (m : ℕ → ℕ → ℤ) → good_code c ≡ true → length xs ≡ 4 * n → n ≤ longest → Quadruples (quadruple xs) m n → frame_words ≤ decisions → n ≤ out
      → (v : ViterbiDecoder) × (r.made ≡ Ok v) × (p : Released) × (r.pushed ≡ Ok p) × (p.count ≡ 0) × (f : Released) × (r.flushed ≡ Ok f) × (f.count ≡ n)
      × Reading (half_of c) (labels c) rule (StartsIn (states_of c) start) m n (take n bits)

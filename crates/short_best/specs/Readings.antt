-- A reading by a code of constraint length 3 to 7: a fresh decoder of traceback 128, a call of metrics, a flush. P7: "The best-path statement is established
-- over the length".
use Rattle.std.specs.Prelude.{◌≡◌, true, not, List, [], ◌∷◌, ℕ, ◌+◌, ◌*◌, ◌/◌, ◌≤◌, ℤ, length, take, replicate, Float, Result, Ok}
use Rattle.refusal.specs.declared.Refusal.{Refusal}
use Rattle.refusal.specs.Rows.{Row}
use Rattle.refusal.specs.Rows as answer
use Rattle.trellis.specs.Isdb.{rule, frame_traceback}
use Rattle.trellis.specs.Lists.{laid}
use Rattle.trellis.specs.Run.{Decoder, block, decisions_after, flushed, four_steps, quadruple}
use Rattle.path_greatest.specs.Paths.{longest, Quadruples, Reading}
use Rattle.isdb_fec.specs.Rows as reading
use Rattle.short_code.specs.declared.Code.{Code}
use Rattle.short_code.specs.Codes.{labels, half_of, states_of, good_code}
use Rattle.short_fec.specs.Calls.{call}
use Rattle.path_greatest.specs.declared.Start.{Start}
use Rattle.path_greatest.specs.Fresh.{start_values, StartsIn}

-- the decoder with its held words and its bits once the metrics xs have been pushed; all its bits
abbrev pub read : Code → Start → List Float → Decoder
read c start xs = call c frame_traceback (four_steps xs) (record { values = start_values (states_of c) start; words = []; bits = [] }) (length xs / 4)

abbrev pub read_bits : Code → Start → List Float → List ℕ
read_bits c start xs = (flushed (half_of c) (labels c) rule (read c start xs)).bits

-- 12, and the rows of every reading
abbrev pub reading_rows : Code → List Float → ℕ → ℕ → List Row
reading_rows c xs decisions out = (answer.Code, not (good_code c)) ∷ reading.reading_rows xs decisions out

-- what an accepted reading leaves: all bits, one for each quadruple, at the front of the output, and the held words zeroed
pub record Finished (c : Code) (start : Start) (xs : List Float) (count : ℕ) (decisions₀ decisions out₀ out : List ℕ) : Type 0 where
  pub count_is : count ≡ length xs / 4
  pub words : decisions ≡ laid (replicate (length (read c start xs).words) 0) (decisions_after frame_traceback (read c start xs).words (read c start xs).bits decisions₀)
  pub bits : out ≡ laid (read_bits c start xs) out₀

pub record Refused (decisions₀ decisions out₀ out : List ℕ) : Type 0 where
  pub words : decisions ≡ decisions₀
  pub bits : out ≡ out₀

-- Viterbi's rule: of at most 4,096 quadruples of whole numbers within 16 of 0, by a good code and with memory enough lent, the reading is accepted, has a bit
-- for each quadruple, and its bits are the inputs of the first path of greatest sum from the given start, or from any where none is given (`Reading.best`);
-- any path from there with the greatest sum and none of that sum before it is the one returned (`Reading.only`)
abbrev pub GreatestSum : Code → Start → List Float → Result ℕ Refusal → ℕ → ℕ → List ℕ → Type 0
GreatestSum c start xs r decisions space out =
    (n : ℕ) (m : ℕ → ℕ → ℤ) → good_code c ≡ true → length xs ≡ 4 * n → n ≤ longest → Quadruples (quadruple xs) m n → block + frame_traceback ≤ decisions → n ≤ space
    → (r ≡ Ok n) × Reading (half_of c) (labels c) rule (StartsIn (states_of c) start) m n (take n out)

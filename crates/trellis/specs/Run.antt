-- A decoder's calls as functions of a sequence of steps. Document 01, "The decoder and encoder".
use Rattle.std.specs.Prelude.{cond, List, [], ◌∷◌, ◌++◌, ℕ, zero, suc, ◌+◌, ◌-◌, ◌*◌, ◌/◌, ◌%◌, length, get_or, take, drop, replicate, eqb, leb, ltb, Float}
use Rattle.std.specs.Float.{nan, binary32}
use Rattle.std.specs.Float.Ieee.{of_bits}
use Rattle.trellis.specs.Lists.{upto, laid}
use Rattle.trellis.specs.Step.{Step, pair, four, known, Tie, nexts, word, best, renormalised, ruled, traced}

-- the path values, the held decision words (oldest first), and the bits that the call has put out so far
pub record Decoder : Type 0 where
  pub values : List Float
  pub words : List ℕ
  pub bits : List ℕ

-- "Path values start 0 at the given state (mod 64), -1,000,000 elsewhere"; n is the number of states
unfoldable pub start_at : ℕ → ℕ → List Float
start_at n s = upto (λ k. cond (eqb k (s % n)) (of_bits binary32 0) (of_bits binary32 0xc974_2400)) n

-- "Unknown start sets all 64 path values to 0"
unfoldable pub start_unknown : ℕ → List Float
start_unknown n = upto (λ k. of_bits binary32 0) n

-- a decoder with these path values that holds no word
abbrev pub fresh_from : List Float → Decoder
fresh_from pm = record { values = pm; words = []; bits = [] }

-- "4,096 bits leave"
abbrev pub block : ℕ
block = 4096

-- 1,024, for a traceback; "Traceback 0 acts as 1"
abbrev pub traceback_limit : ℕ
traceback_limit = 1024

abbrev pub depth : ℕ → ℕ
depth tb = cond (eqb tb 0) 1 tb

-- "The maximum is subtracted after each 64th step of a call"
abbrev pub interval : ℕ
interval = 64

module _ (half : ℕ) (out : ℕ → ℕ → ℕ) (t : Tie) where
  -- the path values once the step of index i in its call has added; of a known bit
  -- "the 32 states that the bit rules out are set to -1.0e9 and the maximum is subtracted"
  unfoldable pub settled : ℕ → Step → List Float → List Float
  settled i (pair lx ly) pm = cond (eqb (i % interval) (interval - 1)) (renormalised half pm) pm
  settled i (four m) pm = cond (eqb (i % interval) (interval - 1)) (renormalised half pm) pm
  settled i (known b) pm = renormalised half (ruled half b pm)

  -- the path values after n steps of a call
  unfoldable pub values_at : (ℕ → Step) → List Float → ℕ → List Float
  values_at steps pm zero = pm
  values_at steps pm (suc n) = settled n (steps n) (nexts half out t (values_at steps pm n) (steps n))

  -- the decision word of step n of a call
  abbrev pub word_at : (ℕ → Step) → List Float → ℕ → ℕ
  word_at steps pm n = word half out t (values_at steps pm n) (steps n)

  -- the bits that the held words give, traced from the best state
  abbrev pub decoded : Decoder → List ℕ
  decoded d = traced half d.words (best t d.values (2 * half - 1))

  -- "At 4,096 + traceback held decisions," the best state "is traced and 4,096 bits leave"
  unfoldable pub released : ℕ → Decoder → Decoder
  released tb d =
      cond (leb (block + tb) (length d.words))
      (record { values = d.values; words = drop block d.words; bits = d.bits ++ take block (decoded d) })
      d

  -- step i of a call, and the release that may follow it
  unfoldable pub stepped : ℕ → ℕ → Step → Decoder → Decoder
  stepped tb i x d =
      released tb
      (record {
        values = settled i x (nexts half out t d.values x);
        words = d.words ++ (word half out t d.values x ∷ []);
        bits = d.bits;
      })

  -- n steps of a call
  unfoldable pub after : ℕ → (ℕ → Step) → Decoder → ℕ → Decoder
  after tb steps d zero = d
  after tb steps d (suc n) = stepped tb n (steps n) (after tb steps d n)

  -- a whole call of n soft-value or metric steps: the maximum is subtracted "at the call's end". A call of known bits is `after` alone.
  abbrev pub closed : Decoder → Decoder
  closed d = record { values = renormalised half d.values; words = d.words; bits = d.bits }

  abbrev pub pushed : ℕ → (ℕ → Step) → Decoder → ℕ → Decoder
  pushed tb steps d n = closed (after tb steps d n)

  -- "Flush emits all held bits ..; path values stay"
  abbrev pub flushed : Decoder → Decoder
  flushed d = record { values = d.values; words = []; bits = d.bits ++ decoded d }

  -- request P6: "a flush that traces from a given state (mod 64), otherwise like the present flush"
  abbrev pub flushed_at : ℕ → Decoder → Decoder
  flushed_at e d = record { values = d.values; words = []; bits = d.bits ++ traced half d.words (e % (2 * half)) }

-- The lent decisions after a call that leaves the words ws and has put out the bits bs: "held words move down and freed words become 0",
-- so once a release took place the first 4,096 + traceback words are the held ones and zeros; the rest is as before.
abbrev pub decisions_after : ℕ → List ℕ → List ℕ → List ℕ → List ℕ
decisions_after tb ws bs before = laid ws (cond (ltb 0 (length bs)) (laid (replicate (block + tb) 0) before) before)

-- a decoder as its path values and the front of the lent decisions hold it
abbrev pub holding : List Float → ℕ → List ℕ → Decoder
holding pm held decisions = record { values = pm; words = take held decisions; bits = [] }

-- the releases of a call of n steps on h held words: one as 4,096 + traceback words are held, which leaves `traceback` of them
abbrev pub releases : ℕ → ℕ → ℕ → ℕ
releases tb h n = cond (ltb (h + n) (block + tb)) 0 ((h + n - tb) / block)

-- ---- the steps of a call: two soft values, four metrics, or one known bit each
abbrev pub pair_steps : List Float → ℕ → Step
pair_steps xs k = pair (get_or xs (2 * k) nan) (get_or xs (2 * k + 1) nan)

-- quadruple k of a flat list
abbrev pub quadruple : List Float → ℕ → List Float
quadruple xs k = get_or xs (4 * k) nan ∷ get_or xs (4 * k + 1) nan ∷ get_or xs (4 * k + 2) nan ∷ get_or xs (4 * k + 3) nan ∷ []

abbrev pub four_steps : List Float → ℕ → Step
four_steps xs k = four (quadruple xs k)

abbrev pub known_steps : List ℕ → ℕ → Step
known_steps bs k = known (get_or bs k 0)

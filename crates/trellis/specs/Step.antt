-- One step of Viterbi's algorithm in f32, over a trellis of 2 * half states whose branch from state s on input u carries the label
-- `out u s` = 2 X + Y, and over the tie-break. Document 01, "The decoder and encoder".
use Rattle.std.specs.Prelude.{Bool, cond, not, List, map, ℕ, zero, suc, ◌+◌, ◌-◌, ◌*◌, ◌/◌, ◌%◌, ◌^◌, get_or, length, eqb, Float}
use Rattle.std.specs.Float.{nan, binary32}
use Rattle.std.specs.Float.Ieee.{neg, add, sub, lt, of_bits}
use Rattle.trellis.specs.Lists.{upto, packed}

-- "A trellis step carries two soft values, four branch metrics, or one known bit"
pub data Step : Type 0 where
  pair : Float → Float → Step
  four : List Float → Step
  known : ℕ → Step

-- the tie-break: the lower number keeps a tie, or the upper one takes it
pub data Tie : Type 0 where
  lower : Tie
  upper : Tie

-- whether b, of the upper number, takes over from a, of the lower one
abbrev pub takes : Tie → Float → Float → Bool
takes lower a b = lt a b
takes upper a b = not (lt b a)

-- a soft value's term for a coded bit: x for 0, -x for 1
abbrev pub term : ℕ → Float → Float
term b x = cond (eqb b 1) (neg x) x

-- "A pair step adds lx's term, then ly's, each rounded"
abbrev pub add_pair : Float → Float → Float → ℕ → Float
add_pair lx ly x l = add binary32 (add binary32 x (term (l / 2) lx)) (term (l % 2) ly)

-- the path value x with a branch of label l: "Four metrics add once"; "A known bit is a pair step of two zeros"
unfoldable pub branch : Step → Float → ℕ → Float
branch (pair lx ly) x l = add_pair lx ly x l
branch (four m) x l = add binary32 x (get_or m l nan)
branch (known b) x l = add_pair (of_bits binary32 0) (of_bits binary32 0) x l

module _ (half : ℕ) (out : ℕ → ℕ → ℕ) where
  -- the path into the new state k from its predecessor with the low bit b; the predecessors of half * u + j are 2 j and 2 j + 1
  unfoldable pub cand : List Float → Step → ℕ → ℕ → Float
  cand pm x k b = branch x (get_or pm (2 * (k % half) + b) nan) (out (k / half) (2 * (k % half) + b))

  -- whether the odd predecessor wins
  unfoldable pub wins : Tie → List Float → Step → ℕ → Bool
  wins t pm x k = takes t (cand pm x k 0) (cand pm x k 1)

  unfoldable pub next : Tie → List Float → Step → ℕ → Float
  next t pm x k = cond (wins t pm x k) (cand pm x k 1) (cand pm x k 0)

  -- the new path values
  unfoldable pub nexts : Tie → List Float → Step → List Float
  nexts t pm x = upto (next t pm x) (2 * half)

  -- the decision word: bit k is 1 exactly when the odd predecessor of state k wins
  unfoldable pub word : Tie → List Float → Step → ℕ
  word t pm x = packed (wins t pm x) (2 * half)

-- the greatest of the first n path values and the least finite f32; of equals the first
unfoldable pub top : List Float → ℕ → Float
top pm zero = of_bits binary32 0xff7f_ffff
top pm (suc n) = cond (lt (top pm n) (get_or pm n nan)) (get_or pm n nan) (top pm n)

-- the best of the states 0 to n: of the greatest the lowest under `lower`, the highest under `upper`
unfoldable pub best : Tie → List Float → ℕ → ℕ
best t pm zero = 0
best t pm (suc n) = cond (takes t (get_or pm (best t pm n) nan) (get_or pm (suc n) nan)) (suc n) (best t pm n)

module _ (half : ℕ) where
  -- "The maximum is subtracted"
  unfoldable pub renormalised : List Float → List Float
  renormalised pm = map (λ x. sub binary32 x (top pm (2 * half))) pm

  -- "the 32 states that the bit rules out are set to -1.0e9"; only the low bit of b counts
  unfoldable pub ruled : ℕ → List Float → List Float
  ruled b pm = upto (λ k. cond (eqb (k / half) (b % 2)) (get_or pm k nan) (of_bits binary32 0xce6e_6b28)) (2 * half)

  -- the predecessor of the state s that the decision word w keeps
  unfoldable pub kept : ℕ → ℕ → ℕ
  kept w s = 2 * (s % half) + w / 2 ^ s % 2

  -- the state d steps before the end of the path that ends in s, by the words of n steps
  unfoldable pub back : List ℕ → ℕ → ℕ → ℕ → ℕ
  back ws n s zero = s
  back ws n s (suc d) = kept (get_or ws (n - suc d) 0) (back ws n s d)

  -- the input of step k of n: the top bit of the state after it
  unfoldable pub input : List ℕ → ℕ → ℕ → ℕ → ℕ
  input ws n s k = back ws n s (n - (k + 1)) / half

  -- the inputs of the path that the words lead back along from s, oldest first
  unfoldable pub traced : List ℕ → ℕ → List ℕ
  traced ws s = upto (input ws (length ws) s) (length ws)

-- Viterbi's algorithm in whole numbers, over any trellis of 2 * half states and either tie-break.
use Rattle.std.specs.Prelude.{Bool, cond, List, [], ◌∷◌, ◌++◌, ℕ, zero, suc, ◌+◌, ◌*◌, ◌/◌, ◌%◌, ◌≤◌, ltb, leb}
use Rattle.trellis.specs.Lists.{bit}
use Rattle.trellis.specs.Step.{Tie, lower, upper}
use Rattle.trellis.specs.Code.{label_at}

-- ---- whole numbers: (a, b) is a - b
abbrev pub Z : Type 0
Z = ℕ × ℕ

abbrev pub plus : Z → Z → Z
plus a b = (a.0 + b.0, a.1 + b.1)

abbrev pub Le : Z → Z → Type 0
Le a b = a.0 + b.1 ≤ b.0 + a.1

-- whether the upper one, of value b, takes over from the lower one, of value a
abbrev pub beats : Tie → Z → Z → Bool
beats lower a b = ltb (a.0 + b.1) (b.0 + a.1)
beats upper a b = leb (a.0 + b.1) (b.0 + a.1)

module _ (half : ℕ) (out : ℕ → ℕ → ℕ) where
  -- the sum of the first k steps: step i adds what `m i` says of the label of its branch
  unfoldable pub sum : (ℕ → ℕ → Z) → ℕ → List ℕ → ℕ → Z
  sum m s us zero = (0, 0)
  sum m s us (suc k) = plus (sum m s us k) (m k (label_at half out s us k))

  -- the start's value and the sum
  abbrev pub total : (ℕ → Z) → (ℕ → ℕ → Z) → ℕ → List ℕ → ℕ → Z
  total v m s us k = plus (v s) (sum m s us k)

  -- ---- the algorithm
  -- the candidate of state k from its predecessor with the low bit b
  unfoldable pub cand_z : (ℕ → Z) → (ℕ → Z) → ℕ → ℕ → Z
  cand_z v m k b = plus (v (2 * (k % half) + b)) (m (out (k / half) (2 * (k % half) + b)))

  -- whether the odd predecessor wins
  unfoldable pub wins_z : Tie → (ℕ → Z) → (ℕ → Z) → ℕ → Bool
  wins_z t v m k = beats t (cand_z v m k 0) (cand_z v m k 1)

  unfoldable pub next_z : Tie → (ℕ → Z) → (ℕ → Z) → ℕ → Z
  next_z t v m k = cond (wins_z t v m k) (cand_z v m k 1) (cand_z v m k 0)

  -- the value at each state after n steps
  unfoldable pub value : Tie → (ℕ → Z) → (ℕ → ℕ → Z) → ℕ → ℕ → Z
  value t v m zero = v
  value t v m (suc n) = next_z t (value t v m n) (m n)

  -- the decision of step n at the new state k, and the predecessor that it keeps
  abbrev pub decision : Tie → (ℕ → Z) → (ℕ → ℕ → Z) → ℕ → ℕ → Bool
  decision t v m n k = wins_z t (value t v m n) (m n) k

  unfoldable pub pred : Tie → (ℕ → Z) → (ℕ → ℕ → Z) → ℕ → ℕ → ℕ
  pred t v m n k = 2 * (k % half) + bit (decision t v m n k)

  -- the traced path of n steps that ends in s: its start, and its inputs
  unfoldable pub origin : Tie → (ℕ → Z) → (ℕ → ℕ → Z) → ℕ → ℕ → ℕ
  origin t v m zero s = s
  origin t v m (suc n) s = origin t v m n (pred t v m n s)

  unfoldable pub inputs : Tie → (ℕ → Z) → (ℕ → ℕ → Z) → ℕ → ℕ → List ℕ
  inputs t v m zero s = []
  inputs t v m (suc n) s = inputs t v m n (pred t v m n s) ++ (s / half ∷ [])

-- the best of the states 0 to n
unfoldable pub best_z : Tie → (ℕ → Z) → ℕ → ℕ
best_z t v zero = 0
best_z t v (suc n) = cond (beats t (v (best_z t v n)) (v (suc n))) (suc n) (best_z t v n)

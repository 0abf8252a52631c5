-- The tables of the backward pass. Of each state: the least cost from there to the end, and the least cost from there to the end of a content that differs from the reading within the rest of
-- its slot.
use Rattle.std.specs.Prelude.{Bool, cond, List, ℕ, zero, suc, ◌+◌, ◌-◌, min, get_or}
use Rattle.trellis.specs.Lists.{upto}
use Rattle.trellis.specs.Code.{moved}
use Rattle.trellis.specs.Isdb

-- no content: 2 ^ 62, more than any content of a frame costs
abbrev pub far : ℕ
far = 4611686018427387904

-- c t z l is the cost of step t with the uncoded bit z and the coded pair l; `two t`: the step has an uncoded bit
module _ (two : ℕ → Bool) (c : ℕ → ℕ → ℕ → ℕ) where
  -- by the cheaper uncoded bit
  unfoldable pub low : ℕ → ℕ → ℕ
  low t l = cond (two t) (min (c t 0 l) (c t 1 l)) (c t 0 l)

  -- by the other uncoded bit than z
  unfoldable pub turned : ℕ → ℕ → ℕ → ℕ
  turned z t l = cond (two t) (c t (1 - z) l) far

-- from the state s on the input u, where the labels cost m and b has the costs after the step
abbrev pub onward : List ℕ → (ℕ → ℕ) → ℕ → ℕ → ℕ
onward b m u s = m (Isdb.labels u s) + get_or b (moved Isdb.half u s) 0

-- the least cost from the state s to the end, by either input; from each state
abbrev pub least_at : List ℕ → (ℕ → ℕ) → ℕ → ℕ
least_at b m s = min (onward b m 0 s) (onward b m 1 s)

unfoldable pub backs : List ℕ → (ℕ → ℕ) → List ℕ
backs b m = upto (least_at b m) Isdb.states

-- the table of j steps from step t on
unfoldable pub back_at : (ℕ → ℕ → ℕ) → ℕ → ℕ → List ℕ
back_at m t zero = upto (λ s. 0) Isdb.states
back_at m t (suc j) = backs (back_at m (suc t) j) (m t)

-- the least cost from the state s of a content that differs: the reading has the input u, and costs `kept`; with the other uncoded bit `turned`; `b` and `d` are the tables after the step. From each state
abbrev pub other_of : List ℕ → List ℕ → (ℕ → ℕ) → (ℕ → ℕ) → (ℕ → ℕ) → ℕ → ℕ → ℕ
other_of b d low kept turned u s = min (onward d kept u s) (min (onward b turned u s) (onward b low (1 - u) s))

unfoldable pub others : List ℕ → List ℕ → (ℕ → ℕ) → (ℕ → ℕ) → (ℕ → ℕ) → ℕ → List ℕ
others d b kept turned low u = upto (other_of b d low kept turned u) Isdb.states

-- the least cost of j steps from step t on that differ from the inputs us and the uncoded bits zs in one of the first r
module _ (two : ℕ → Bool) (c : ℕ → ℕ → ℕ → ℕ) (us zs : ℕ → ℕ) where
  unfoldable pub other_at : ℕ → ℕ → ℕ → List ℕ
  other_at t zero j = upto (λ s. far) Isdb.states
  other_at t (suc r) zero = upto (λ s. far) Isdb.states
  other_at t (suc r) (suc j) = others (other_at (suc t) r j) (back_at (low two c) (suc t) j) (c t (zs t)) (turned two c (zs t) t) (low two c t) (us t)

-- the least of what the first n states cost by two tables together
unfoldable pub least_of : List ℕ → List ℕ → ℕ → ℕ
least_of a d zero = far + far
least_of a d (suc n) = min (least_of a d n) (get_or a n 0 + get_or d n 0)

-- ---- the tables r steps back, from step t + r to step t
unfoldable pub back_run : List ℕ → (ℕ → ℕ → ℕ) → ℕ → ℕ → List ℕ
back_run b m t zero = b
back_run b m t (suc r) = backs (back_run b m (suc t) r) (m t)

module _ (two : ℕ → Bool) (c : ℕ → ℕ → ℕ → ℕ) (us zs : ℕ → ℕ) where
  unfoldable pub other_run : List ℕ → List ℕ → ℕ → ℕ → List ℕ
  other_run d b t zero = d
  other_run d b t (suc r) = others (other_run d b (suc t) r) (back_run b (low two c) (suc t) r) (c t (zs t)) (turned two c (zs t) t) (low two c t) (us t)

-- before a slot's last step: no content differs
unfoldable pub fars : List ℕ
fars = upto (λ s. far) Isdb.states

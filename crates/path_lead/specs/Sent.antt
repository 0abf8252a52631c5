-- The sent state always leads: over at most 68,208 steps that favour the pairs of an encoded input, the sent state is the only best one after each step,
-- and each decision along the sent path points along it, so a traceback finds the inputs.
use Rattle.std.specs.Prelude.{◌≡◌, List, T, get_or, Float}
use Prim.Native.Nat.{ℕ, ◌-◌, ◌<◌}
use Rattle.std.specs.Float.{nan, binary32}
use Rattle.std.specs.Float.Ieee.{lt}
use Rattle.ieee.specs.Value.{Num}
use Rattle.trellis.specs.Lists.{upto}
use Rattle.trellis.specs.Code.{state_at}
use Rattle.trellis.specs.Step.{four, Tie, best, traced}
use Rattle.trellis.specs.Run.{start_at, values_at, word_at}
use Rattle.trellis.specs.Isdb

-- ---- what is shown
-- the path values after n steps of a call that starts at the state s
abbrev pub values : Tie → (ℕ → List Float) → ℕ → ℕ → List Float
values t ms s n = values_at Isdb.half Isdb.labels t (λ i. four (ms i)) (start_at 64 s) n

-- the decision words of these steps
abbrev pub words : Tie → (ℕ → List Float) → ℕ → ℕ → List ℕ
words t ms s n = upto (word_at Isdb.half Isdb.labels t (λ i. four (ms i)) (start_at 64 s)) n

-- after n steps all path values are finite, the sent state is strictly ahead of every other and so the best; the traceback from it finds the inputs
pub record Follows (t : Tie) (ms : ℕ → List Float) (s : ℕ) (us : List ℕ) (n : ℕ) : Type 0 where
  pub finite : (r : ℕ) → r < 64 → Num binary32 (get_or (values t ms s n) r nan)
  pub ahead : (r : ℕ) → r < 64 → (r ≡ state_at 32 s us n → ⊥) → T (lt (get_or (values t ms s n) r nan) (get_or (values t ms s n) (state_at 32 s us n) nan))
  pub first : best t (values t ms s n) 63 ≡ state_at 32 s us n
  pub inputs : (i : ℕ) → i < n → get_or (traced 32 (words t ms s n) (best t (values t ms s n) 63)) i 0 ≡ get_or us i 0

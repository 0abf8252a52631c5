-- The choice of `larger` and of `beats`, by the even and the odd path into a state, is that of the trellis step.
use Rattle.std.specs.Prelude.{◌≡◌, cond, List, ℕ, Float}
use Rattle.trellis.specs.Lists.{bit}
use Rattle.trellis.specs.Step as trellis
use Rattle.trellis.specs.Step.{Step}
use Rattle.trellis.specs.Isdb.{rule, cand, wins, next}

module _ (pm : List Float) (x : Step) where
  pub beats_wins : (k : ℕ) (e o : Float) (b : ℕ) → e ≡ cand pm x k 0 → o ≡ cand pm x k 1 → b ≡ bit (trellis.takes rule e o) → b ≡ bit (wins pm x k)
  unfolding trellis.wins
  beats_wins k e o b is-e is-o is_b = rw (is_b, is-e, is-o)

  pub larger_next : (k : ℕ) (e o v : Float) → e ≡ cand pm x k 0 → o ≡ cand pm x k 1 → v ≡ cond (trellis.takes rule e o) o e → v ≡ next pm x k
  unfolding trellis.next trellis.wins
  larger_next k e o v is-e is-o is-v = rw (is-v, is-e, is-o)

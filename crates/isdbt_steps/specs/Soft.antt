-- The soft values of a call's steps.
use Rattle.std.specs.Prelude.{◌≡◌, cond, List, [], ◌∷◌, ℕ, ◌+◌, ◌*◌, ◌/◌, ◌%◌, ◌<◌, eqb, ltb, take, get_or, Float}
use Rattle.std.specs.Float.{nan, binary32}
use Rattle.std.specs.Float.Ieee.{of_bits}
use Rattle.trellis.specs.Step as trellis
use Rattle.trellis.specs.Step.{pair}
use Rattle.isdbt_table.specs.Puncture.{spread}
use Rattle.isdbt_steps.specs.declared.Standing.{Standing}

-- the soft value of the mother bit k, and the steps, from the numbers of a compiled puncturing
abbrev pub soft_by : ℕ → ℕ → List ℕ → List Float → ℕ → Float
soft_by p n ps xs k = spread (take n ps) xs (n * (k / (2 * p))) (k % (2 * p))

abbrev pub steps_by : ℕ → ℕ → List ℕ → List Float → ℕ → trellis.Step
steps_by p n ps xs k = pair (soft_by p n ps xs (2 * k)) (soft_by p n ps xs (2 * k + 1))

-- the first place of k among the ps, counted from i; past their end where k is none of them
unfoldable pub found_from : List ℕ → ℕ → ℕ → ℕ
found_from [] i k = i
found_from (p ∷ ps) i k = cond (eqb k p) i (found_from ps (i + 1) k)

-- which of a period's n sent values is that of the mother bit k; n where it is not sent
abbrev pub sent_as : ℕ → List ℕ → ℕ → ℕ
sent_as n order k = found_from (take n order) 0 k

-- the sent value w of the period whose n values begin at `base`, 0 where w is none of them
abbrev pub sent_value : ℕ → List Float → ℕ → ℕ → Float
sent_value n xs base w = cond (ltb w n) (get_or xs (base + w) nan) (of_bits binary32 0)

-- a list has, of each mother bit of a period, which of the n sent values is its own: the soft value of the mother bit is the value there
abbrev pub Placed : ℕ → List ℕ → List ℕ → Type 0
Placed n order places = (k : ℕ) → k < 14 → (xs : List Float) (base : ℕ) → sent_value n xs base (get_or places k 0) ≡ spread (take n order) xs base k

-- the soft value of the mother bit k, and the steps, by such a list
abbrev pub placed_by : ℕ → ℕ → List ℕ → List Float → ℕ → Float
placed_by p n places xs k = sent_value n xs (n * (k / (2 * p))) (get_or places (k % (2 * p)) 0)

abbrev pub placed_steps : ℕ → ℕ → List ℕ → List Float → ℕ → trellis.Step
placed_steps p n places xs k = pair (placed_by p n places xs (2 * k)) (placed_by p n places xs (2 * k + 1))

-- where the next step stands: a period has `width` mother bits, two to a step, and n sent values
abbrev pub next_of : Standing → ℕ → ℕ → Standing
next_of at width n = cond (eqb (at.place + 2) width) (record { place = 0; base = at.base + n }) (record { place = at.place + 2; base = at.base })

-- where step k of a call stands
abbrev pub standing_at : ℕ → ℕ → ℕ → Standing
standing_at p n k = record { place = 2 * k % (2 * p); base = n * (2 * k / (2 * p)) }

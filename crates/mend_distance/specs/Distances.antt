-- Of each state, the least number of bits in which a coded stretch from the start to it differs from the stored one, counted up to 5: a table of 64 numbers a step, made as in
-- Viterbi's algorithm.
use Rattle.std.specs.Prelude.{Bool, cond, List, ℕ, zero, suc, ◌+◌, ◌*◌, ◌/◌, ◌%◌, ◌≤◌, min, eqb, ltb, length, get_or}
use Rattle.trellis.specs.Lists.{upto, packed}
use Rattle.trellis.specs.Stretch.{apart}
use Rattle.mend_distance.specs.Stretches.{most_changed}
use Rattle.trellis.specs.Isdb

-- 2 X + Y of step k of a stretch of bits
abbrev pub pair_at : List ℕ → ℕ → ℕ
pair_at bits k = 2 * get_or bits (2 * k) 0 + get_or bits (2 * k + 1) 0

-- no stretch is near: one more than the most
abbrev pub far : ℕ
far = 5

-- the way to state k by the predecessor with the low bit b. `d` has the numbers before the step, whose pair is l
unfoldable pub through : List ℕ → ℕ → ℕ → ℕ → ℕ
through d l k b = get_or d (2 * (k % Isdb.half) + b) 0 + apart (Isdb.labels (k / Isdb.half) (2 * (k % Isdb.half) + b)) l

unfoldable pub next : List ℕ → ℕ → ℕ → ℕ
next d l k = min far (min (through d l k 0) (through d l k 1))

unfoldable pub nexts : List ℕ → ℕ → List ℕ
nexts d l = upto (next d l) Isdb.states

-- the step's decision word: bit k is 1 exactly when the way by the odd predecessor of state k differs less
abbrev pub odd : List ℕ → ℕ → ℕ → Bool
odd d l k = ltb (through d l k 1) (through d l k 0)

unfoldable pub word : List ℕ → ℕ → ℕ
word d l = packed (odd d l) Isdb.states

-- before the first step: 0 at the start state, out of reach elsewhere
unfoldable pub begun : ℕ → List ℕ
begun s = upto (λ k. cond (eqb k s) 0 far) Isdb.states

-- after n steps of the pairs r
unfoldable pub nearest : ℕ → (ℕ → ℕ) → ℕ → List ℕ
nearest s r zero = begun s
nearest s r (suc n) = nexts (nearest s r n) (r n)

-- no number is above 5
abbrev pub Capped : List ℕ → Type 0
Capped d = (k : ℕ) → get_or d k 0 ≤ far

-- the number of the end state after a whole stretch
abbrev pub least : ℕ → ℕ → List ℕ → ℕ
least s e bits = get_or (nearest s (pair_at bits) (length bits / 2)) e 0

-- the decision words of a whole stretch
abbrev pub word_at : ℕ → List ℕ → ℕ → ℕ
word_at s bits t = word (nearest s (pair_at bits) t) (pair_at bits t)

-- whether no coded stretch lies within four: `within-least` in DistanceLaws, and every accepted call of `mend`, show that it says so
unfoldable pub unmendable : ℕ → ℕ → List ℕ → Bool
unmendable s e bits = ltb most_changed (least s e bits)

-- The trellis step, and steps in a row with neither a release nor the subtraction of a 64th step between them.
use Rattle.std.specs.Prelude.{List, [], ◌∷◌, ℕ, zero, suc, ◌/◌, length, Float}
use Rattle.trellis.specs.Lists.{upto}
use Rattle.trellis.specs.Step as trellis
use Rattle.trellis.specs.Step.{pair, four, known, renormalised, ruled}
use Rattle.trellis.specs.Run.{pair_steps, four_steps, known_steps}
use Rattle.trellis.specs.Isdb
use Rattle.trellis.specs.Isdb.{nexts, word}
use Rattle.viterbi_steps.specs.declared.Step.{Step}
use Rattle.viterbi_steps.specs.declared.Step.TheVariants.{Pair, Four, Known}
use Rattle.viterbi_steps.specs.declared.Kind.{Kind}
use Rattle.viterbi_steps.specs.declared.Kind.TheVariants.{Pairs, Fours, Knowns}

-- "A trellis step carries two soft values, four branch metrics, or one known bit"
abbrev pub step_of : Step → trellis.Step
step_of (Pair lx ly) = pair lx ly
step_of (Four a b c d) = four (a ∷ b ∷ c ∷ d ∷ [])
step_of (Known b) = known b

-- the steps of a call by what they carry, and how many are lent
abbrev pub steps_of : Kind → List Float → List ℕ → ℕ → trellis.Step
steps_of Pairs values bits = pair_steps values
steps_of Fours values bits = four_steps values
steps_of Knowns values bits = known_steps bits

abbrev pub lent_steps : Kind → List Float → List ℕ → ℕ
lent_steps Pairs values bits = length values / 2
lent_steps Fours values bits = length values / 4
lent_steps Knowns values bits = length bits

-- the path values that a step itself leaves. Of a known bit "the 32 states that the bit rules out are set to -1.0e9 and the maximum is subtracted"; the subtraction after
-- a 64th step is not the step's
unfoldable pub step_values : List Float → trellis.Step → List Float
step_values pm (pair lx ly) = nexts pm (pair lx ly)
step_values pm (four m) = nexts pm (four m)
step_values pm (known b) = renormalised Isdb.half (ruled Isdb.half b (nexts pm (known b)))

-- the path values after n steps
unfoldable pub run_values : (ℕ → trellis.Step) → List Float → ℕ → List Float
run_values xs pm zero = pm
run_values xs pm (suc n) = step_values (run_values xs pm n) (xs n)

-- the decision word of step k, and those of the first n steps
abbrev pub run_word : (ℕ → trellis.Step) → List Float → ℕ → ℕ
run_word xs pm k = word (run_values xs pm k) (xs k)

abbrev pub run_words : (ℕ → trellis.Step) → List Float → ℕ → List ℕ
run_words xs pm n = upto (run_word xs pm) n

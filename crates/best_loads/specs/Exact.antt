-- The sum of a load's metrics with no grid: as they are in f32, added exactly, in units of 2 ^ -149. Definitions only.
use Rattle.std.specs.Prelude.{cond, List, ℕ, zero, suc, ◌+◌, ◌*◌, eqb, get_or, Float}
use Rattle.std.specs.Float.{nan, binary32}
use Rattle.ieee.specs.Value.{hi, lo}
use Rattle.path_greatest.specs.Viterbi.{Z, plus}
use Rattle.isdbs_combination.specs.declared.Modulation.{Modulation}
use Rattle.isdbs_combination.specs.declared.Modulation.TheVariants.{Bpsk, Qpsk, Tc8psk}
use Rattle.isdbs_combination.specs.Combinations.{modulation_of}
use Rattle.isdbs_tables.specs.declared.Table.{Table}
use Rattle.isdbs_plan.specs.RunsOf.{frame_steps}
use Rattle.isdbs_points.specs.Layout.{Segment, at_step, load_bit}
use Rattle.isdbs_points.specs.Frame.{inputs, label_at}
use Rattle.isdbs_metrics.specs.Reading.{Received, metrics_by}
use Rattle.best_sides.specs.FrameSides.{better_in}

-- a metric, and its negative: a pair (p, n) is p - n
abbrev pub value : Float → Z
value x = (hi binary32 x, lo binary32 x)

abbrev pub turned : Z → Z
turned p = (p.1, p.0)

-- what a step adds, as `stepFit` has it on the grid
unfoldable pub step_exact : Modulation → Received → Segment → ℕ → ℕ → ℕ → Z
step_exact Bpsk r g k c2 l = value (get_or (metrics_by Bpsk r g k) l nan)
step_exact Qpsk r g k c2 l = value (get_or (metrics_by Qpsk r g k) l nan)
step_exact Tc8psk r g k c2 l = cond (eqb c2 (better_in r g k l)) (value (get_or (metrics_by Tc8psk r g k) l nan)) (turned (value (get_or (metrics_by Tc8psk r g k) l nan)))

abbrev pub exact_in : Received → List ℕ → (ℕ → ℕ) → Segment → ℕ → Z
exact_in r load pair g k = step_exact (modulation_of g.combination) r g k (load_bit load (g.bit + 2 * k)) (pair (g.step + k))

unfoldable pub exact_at : Table → Received → List ℕ → ℕ → ℕ → Z
exact_at t r load s = at_step (0, 0) (exact_in r load (label_at s (inputs t load))) t

unfoldable pub exact_to : Table → Received → List ℕ → ℕ → ℕ → Z
exact_to t r load s zero = (0, 0)
exact_to t r load s (suc k) = plus (exact_to t r load s k) (exact_at t r load s k)

-- the exact sum of a load that is encoded from the state s
abbrev pub exact : Table → Received → List ℕ → ℕ → Z
exact t r load s = exact_to t r load s (frame_steps t)

-- Blocks of a run's steps: whole periods, their soft values and their four metrics each, one after the other.
use Rattle.std.specs.Prelude.{◌≡◌, cond, List, [], ℕ, ◌+◌, ◌*◌, ◌/◌, ◌%◌, ◌^◌, ◌<◌, ◌≤◌, ltb, length, get_or, Float}
use Rattle.std.specs.Float.{nan, binary32}
use Rattle.std.specs.Float.Ieee.{of_bits}
use Rattle.trellis.specs.Lists.{upto, first_place}
use Rattle.trellis.specs.Step.{Step, pair, four, known}
use Rattle.isdbs_combination.specs.declared.Combination.{Combination}
use Rattle.isdbs_points.specs.declared.Mapping.{Mapping}
use Rattle.isdbs_points.specs.Points.{point, conjugated, psk8_of, subset}
use Rattle.isdbs_points.specs.Layout.{order_of, steps_per_period}
use Rattle.isdbs_points.specs.Pieces.{piece}
use Rattle.isdbs_metrics.specs.Reading.{soft_at, correlation, pair_metrics, received}
use Rattle.isdbs_metrics.specs.Steps.{LayoutOf, Covers, piece_metrics}
use Rattle.decode_block.specs.declared.BlockPlan.{BlockPlan}
use Rattle.trellis.specs.Run.{four_steps}
use Rattle.strain_marks.specs.Marks.{mark_of}

-- the steps of a run
abbrev pub run_steps : Combination → List Float → List Float → Mapping → Float → ℕ → Step
run_steps c re im m scale k = four (piece_metrics c re im m scale k)

-- their marks, and the four metrics of a step
abbrev pub run_mark : Combination → List Float → List Float → Mapping → Float → ℕ → ℕ
run_mark c re im m scale k = mark_of (piece_metrics c re im m scale k)

abbrev pub four_in : Step → List Float
four_in (pair lx ly) = []
four_in (four ms) = ms
four_in (known b) = []

-- n steps are whole periods
abbrev pub Periods : Combination → ℕ → Type 0
Periods c n = n % steps_per_period c ≡ 0

-- a plan of at most 64 whole periods of a run, from a period's first step on
pub record BlockPlanned (p : BlockPlan) : Type 0 where
  pub layout : LayoutOf p.layout
  pub start : Periods p.layout.combination p.from
  pub whole : Periods p.layout.combination p.count
  pub few : p.count ≤ 64 * steps_per_period p.layout.combination
  pub under : p.from + p.count < 2 ^ 30

-- n symbols are enough for it
abbrev pub BlockCovers : BlockPlan → ℕ → Type 0
BlockCovers p n = Covers p.layout.combination (p.from + p.count) n

-- the run's steps and their marks, by a plan
abbrev pub plan_steps : BlockPlan → List Float → List Float → ℕ → Step
plan_steps p re im = run_steps p.layout.combination re im p.mapping p.scale

abbrev pub plan_mark : BlockPlan → List Float → List Float → ℕ → ℕ
plan_mark p re im = run_mark p.layout.combination re im p.mapping p.scale

-- a block holds n of the steps ys from step k0 on
pub record BlockMade (ys : ℕ → Step) (k0 n : ℕ) (block : List Float) : Type 0 where
  pub long : 4 * n ≤ length block
  pub made : (i : ℕ) → i < n → four_steps block i ≡ ys (k0 + i)

-- the metrics of steps one after the other
abbrev pub fours : (ℕ → List Float) → ℕ → Float
fours ms i = get_or (ms (i / 4)) (i % 4) nan

-- those of step s from the soft values of the steps, X and Y of each by turns
abbrev pub pairs_at : List Float → ℕ → List Float
pairs_at pairs s = pair_metrics (get_or pairs (2 * s) nan) (get_or pairs (2 * s + 1) nan)

-- the soft values of the steps from step k0 on, X and Y of each by turns
abbrev pub step_soft : Combination → List Float → List Float → Mapping → Float → ℕ → ℕ → Float
step_soft c re im m scale k0 j = soft_at (received re im m scale) (piece c 0) (k0 + j / 2) (j % 2)

-- those of whole periods from the soft values that were sent: 0 where the mother bit is erased
abbrev pub spread_soft : Combination → List Float → ℕ → Float
spread_soft c softs j =
    let n = length (order_of c) in
    let i = first_place (2 * (j / 2 % steps_per_period c) + j % 2) (order_of c) in
    cond (ltb i n) (get_or softs (j / 2 / steps_per_period c * n + i) nan) (of_bits binary32 0)

-- those of one period, from the soft values that it sent
abbrev pub period_soft : Combination → List Float → ℕ → Float
period_soft c softs a = cond (ltb (first_place a (order_of c)) (length (order_of c))) (get_or softs (first_place a (order_of c)) nan) (of_bits binary32 0)

-- what a TC8PSK symbol k gives with the four points of C2 = 0, in the order of the labels 2 X + Y
abbrev pub subset_parts : List Float → List Float → Mapping → ℕ → List Float
subset_parts re im m k = upto (λ l. correlation (point (get_or re k nan) (conjugated m.conjugate (get_or im k nan))) (psk8_of (subset m.tc8psk_c1_is_y l))) 4

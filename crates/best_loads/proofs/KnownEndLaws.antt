-- "The frame's end is open; W1's known bits add nothing to any sum": a load's steps with W1's behind them have the sum `fit` (`closed_sum`), and of two loads the same path comes first with W1's
-- steps and without (`closed_first`, `first_closed`). So the first path of the open end is the first path of `decode_frame`'s, which reads W1 as known bits.
use Rattle.std.specs.Prelude.{◌≡◌, Bool, true, false, cond, List, ◌++◌, eqb, ltb, ℤ, pos, get_or, Float}
use Rattle.std.proofs.Math.Path.{refl}
use Rattle.std.proofs.Common.{◌∙◌, arith}
use Prim.Native.Nat.{ℕ, zero, suc, ◌+◌, ◌/◌, ◌%◌, ◌≤◌, ◌<◌}
use borrow.Author.Tests.{lt-ltb, le-ltb}
use Rattle.std.specs.Float.{binary32}
use Rattle.std.specs.Float.Ieee.{add, neg, of_bits}
use Rattle.ieee.specs.Value as value
use Rattle.trellis.specs.Lists.{upto}
use Rattle.trellis.specs.ListLaws.{length_upto}
use Rattle.trellis.specs.Step.{term}
use Rattle.trellis.specs.Isdb
use Rattle.path_greatest.specs.Paths.{First, sumℤ}
use Rattle.isdbs_frame.specs.Frame.{w1, sync_bits}
use Rattle.isdbs_tables.specs.declared.Table.{Table}
use Rattle.isdbs_plan.specs.RunsOf.{frame_steps}
use Rattle.isdbs_points.specs.Layout.{at_step, word_bit}
use Rattle.isdbs_points.specs.Frame.{input_in, inputs}
use Rattle.isdbs_metrics.specs.Reading.{Received}
use Rattle.best_sides.specs.FrameSides.{frame_metrics, frame_sides}
use Rattle.best_grid.specs.Grid.{grid, above, below}
use Rattle.best_grid.specs.Sides.{worth_at}
use Rattle.best_grid.specs.Contents.{worth}
use Rattle.best_grid.specs.KnownEnd.{known_sum, known_first, first_known}
use Rattle.best_loads.specs.Fit.{fit}
use Rattle.best_loads.specs.Held.{uncoded_bits}
use Rattle.best_loads.proofs.FitLaws.{load_worth, load_content}

abbrev zero32 : Float
zero32 = of_bits binary32 0

-- what a known bit's step adds where the pair l is sent: "A known bit is a pair step of two zeros"
unfoldable pub known_fit : ℕ → ℤ
known_fit l = grid (add binary32 (term (l / 2) zero32) (term (l % 2) zero32))

-- what step k adds where the pair l is sent: of a load's own steps, then of the known bits
unfoldable pub closed_at : Table → Received → List ℕ → ℕ → ℕ → ℤ
closed_at t r load k l = cond (ltb k (frame_steps t)) (worth_at (frame_metrics t r) (frame_sides t r) k (get_or (uncoded_bits t load) k 0) l) (known_fit l)

-- the inputs of a load, then the 16 bits of W1
abbrev pub closed : Table → List ℕ → List ℕ
closed t load = inputs t load ++ upto (word_bit w1) sync_bits

known_none : (l : ℕ) → known_fit l ≡ pos 0
unfolding known_fit grid above below value.lo value.hi add of_bits neg
known_none l = both (eqb (l / 2) 1) (eqb (l % 2) 1)
  where
    both : (p q : Bool) → grid (add binary32 (cond p (neg zero32) zero32) (cond q (neg zero32) zero32)) ≡ pos 0
    both true true = refl
    both true false = refl
    both false true = refl
    both false false = refl

module _ (t : Table) (r : Received) (load : List ℕ) (s : ℕ) where
  silent : (k l : ℕ) → frame_steps t ≤ k → closed_at t r load k l ≡ pos 0
  unfolding closed_at
  silent k l h = rw (le-ltb k (frame_steps t) h) (known_none l)

  own_sum : (k : ℕ) → k ≤ frame_steps t
      → sumℤ 32 Isdb.labels (closed_at t r load) s (inputs t load) k ≡ worth (worth_at (frame_metrics t r) (frame_sides t r)) s (inputs t load) (uncoded_bits t load) k
  unfolding sumℤ worth closed_at
  own_sum zero h = refl
  own_sum (suc k) h = rw (own_sum k (omega arith), lt-ltb k (frame_steps t) h) refl

  pub closed_sum : sumℤ Isdb.half Isdb.labels (closed_at t r load) s (closed t load) (frame_steps t + sync_bits) ≡ fit t r load s
  unfolding inputs
  closed_sum =
      known_sum (closed_at t r load) (frame_steps t) s (inputs t load) (upto (word_bit w1) sync_bits) (length_upto (at_step 0 (input_in load) t) (frame_steps t)) silent sync_bits
      ∙ own_sum (frame_steps t) (omega arith)
      ∙ load_worth t r load s

-- of two loads, from the states s and q, the first is the first path with W1's steps exactly where it is without
module _ (t : Table) (r : Received) (load other : List ℕ) (s q : ℕ) (small : s < Isdb.states) (also : q < Isdb.states) where
  pub closed_first : First Isdb.half Isdb.rule s (closed t load) q (closed t other) (frame_steps t + sync_bits) → First Isdb.half Isdb.rule s (inputs t load) q (inputs t other) (frame_steps t)
  closed_first = known_first s (inputs t load) q (inputs t other) (upto (word_bit w1) sync_bits) (frame_steps t) (load_content t r load s small).path (load_content t r other q also).path 10

  pub first_closed : First Isdb.half Isdb.rule s (inputs t load) q (inputs t other) (frame_steps t) → First Isdb.half Isdb.rule s (closed t load) q (closed t other) (frame_steps t + sync_bits)
  first_closed = first_known s (inputs t load) q (inputs t other) (upto (word_bit w1) sync_bits) (frame_steps t) (load_content t r load s small).path (load_content t r other q also).path 10

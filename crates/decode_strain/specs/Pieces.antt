-- Strain of a run by itself, by marks: slices start at the run's first step; and of a whole frame.
use Rattle.std.specs.Prelude.{◌≡◌, List, ℕ, ◌+◌, ◌*◌, ◌<◌}
use Rattle.trellis.specs.Lists.{upto, laid}
use Rattle.trellis.specs.Code.{state_at}
use Rattle.isdbs_tables.specs.declared.Table.{Table}
use Rattle.strain_marks.specs.Counts.{summed}
use Rattle.strain_marks.specs.Slots.{by_slot}
use Rattle.strain_marks.specs.Marks.{marked}
use Rattle.decode_strain.specs.declared.RunCount.{RunCount}
use Rattle.trellis.specs.Isdb

-- the strained steps of slot v of a run whose slots have w steps
abbrev pub run_strain : ℕ → List ℕ → ℕ → List ℕ → ℕ → ℕ
run_strain w ms s us v = summed (λ i. marked ms s us (w * v + i)) w

-- n slots of a run are counted
pub record RunCounted (w : ℕ) (ms us : List ℕ) (s n : ℕ) (r : RunCount) (counts₀ counts : List ℕ) : Type 0 where
  pub small : r.state < Isdb.states
  pub state_is : r.state ≡ state_at Isdb.half s us (w * n)
  pub sum_is : r.sum ≡ summed (run_strain w ms s us) n
  pub counts_are : counts ≡ laid (upto (run_strain w ms s us) n) counts₀

-- the strained steps of valid slot j of a frame with the marks ms, whose decoded bits us are encoded again from the state s
abbrev pub frame_strain : Table → List ℕ → ℕ → List ℕ → ℕ → ℕ
frame_strain t ms s us = by_slot t (marked ms s us)

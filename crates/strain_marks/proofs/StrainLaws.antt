-- Laws of the strain of a frame: its sum, the most it can be, and where it is 0.
use Rattle.std.specs.Prelude.{◌≡◌, refl, Bool, false, List, ℕ, zero, suc, ◌<◌, ◌≤◌, get_or, Float}
use Rattle.std.proofs.Common.{◌∙◌, arith}
use Rattle.std.specs.Float.{nan}
use Rattle.std.specs.Float.Ieee.{lt}
use Rattle.trellis.specs.Lists.{bit}
use Rattle.isdbs_tables.specs.declared.Table.{Table}
use Rattle.isdbs_tables.specs.Tables.{TableAccepted}
use Rattle.isdbs_plan.specs.RunsOf.{valid_total, frame_steps}
use Rattle.isdbs_points.specs.SizeLaws.{few_steps}
use Rattle.isdbs_metrics.specs.Reading.{Received}
use Rattle.strain_marks.specs.Counts.{counted}
use Rattle.strain_marks.specs.CountsLaws.{counted_few, counted_none, zero_summed}
use Rattle.strain_marks.proofs.SlotsLaws.{slots_sum}
use Rattle.strain_marks.specs.Strain.{some_above, strained, strain_of, strain_sum}
use Rattle.trellis.specs.Isdb.{longest_frame}

module _ (t : Table) (r : Received) (knownStart first : Bool) where
  -- "The sum equals the strained steps of the whole frame"
  pub strain_sum_lem : strain_sum t r knownStart first ≡ counted (strained t r knownStart first) (frame_steps t)
  strain_sum_lem = slots_sum t (λ k. bit (strained t r knownStart first k))

  -- and is at most its steps, 68,208 for an accepted table
  pub strain_few : strain_sum t r knownStart first ≤ frame_steps t
  strain_few = omega (arith, strain_sum_lem, counted_few (strained t r knownStart first) (frame_steps t))

  pub strain_bound : TableAccepted t → strain_sum t r knownStart first ≤ longest_frame
  strain_bound fit = omega (arith, strain_few, few_steps t fit)

  -- where no step is strained, the sum and every count are 0
  module _ (none : (k : ℕ) → k < frame_steps t → strained t r knownStart first k ≡ false) where
    pub strain_none : strain_sum t r knownStart first ≡ 0
    strain_none = strain_sum_lem ∙ counted_none (strained t r knownStart first) (frame_steps t) none

    pub strain_of_none : (j : ℕ) → j < valid_total t → strain_of t r knownStart first j ≡ 0
    strain_of_none = zero_summed (strain_of t r knownStart first) (valid_total t) strain_none

-- no metric greater, no strain
pub none_above : (m : List Float) (c n : ℕ) → ((l : ℕ) → l < n → lt (get_or m c nan) (get_or m l nan) ≡ false) → some_above m c n ≡ false
unfolding some_above
none_above m c zero h = refl
none_above m c (suc n) h = rw (none_above m c n (λ l i. h l (omega arith)), h n (omega arith))

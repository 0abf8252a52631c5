-- An accepted table's runs lie within the frame; what `runs` holds.
use Rattle.std.specs.Prelude.{◌≡◌, refl, Result, Ok, Err}
use Rattle.std.proofs.Common.{ap, lit≤}
use Rattle.refusal.specs.declared.Refusal.{Refusal}
use Rattle.refusal.specs.Rows.{Accepted}
use Rattle.refusal.proofs.RowLaws.{accepted_by, refused_with}
use Rattle.isdbs_combination.specs.declared.Combination.TheVariants.{Bpsk1_2}
use Rattle.isdbs_tables.specs.declared.Table.{Table}
use Rattle.isdbs_plan.specs.declared.FrameRuns.{FrameRuns}
use Rattle.trellis.specs.Lists.{Each, padded}
use Rattle.isdbs_tables.specs.Tables.{table_answer, TableAccepted}
use Rattle.isdbs_plan.specs.RunsOf.{runs_of, valid_total, no_run, four_of, four_runs, RunFits}
use Rattle.isdbs_plan.specs.RunLaws.{Whole, run_whole, each_padded, Laid, laid}
use Rattle.isdbs_tables.proofs.TableLaws.{sum_fits, units_whole}

-- its slots are 48 at most and each run is whole units: no slot is left over
pub table_laid : (t : Table) → TableAccepted t → Laid t
table_laid t a = laid t (sum_fits t a) (units_whole t a)

-- what an accepted call of `runs` tells
module _ (t : Table) (r : FrameRuns) (e : Ok r ≡ four_runs t) where
  told : (table_answer t ≡ Accepted) × (r ≡ four_of (runs_of t))
  told = accepted_by (table_answer t) (four_of (runs_of t)) r e

  pub runs_accepted : TableAccepted t
  runs_accepted = told.0

  pub runs_are : r.runs ≡ padded 4 no_run (runs_of t)
  runs_are = ap (λ (x : FrameRuns). x.runs) told.1

  pub valid_are : r.valid_slots ≡ valid_total t
  valid_are = ap (λ (x : FrameRuns). x.valid_slots) told.1

  pub runs_in : Each RunFits r.runs
  runs_in = rw runs_are (each_padded RunFits 4 no_run (runs_of t) (record { slots = lit≤ tt; starts = lit≤ tt; ends = lit≤ tt }) (table_laid t runs_accepted).fit)

  pub runs_units : Each Whole r.runs
  runs_units = rw runs_are (each_padded Whole 4 no_run (runs_of t) (run_whole Bpsk1_2 0 0 0 refl) (table_laid t runs_accepted).whole)

-- and a refused one
pub runs_refused : (t : Table) (row : Refusal) → Err row ≡ four_runs t → Err row ≡ table_answer t
runs_refused t row e = refused_with (table_answer t) (four_of (runs_of t)) row e

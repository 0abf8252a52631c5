-- `read_by_table` meets its contract.
use mathlib.Core.Path.{sym, ◌∙◌}
use Rattle.isdbs_plan.specs.PlannedLaws.{planned}
use Rattle.bench_wanted.proofs.misfit.read_by_table.Goals as goal

pub read_off-requires : goal.read_off-requires
read_off-requires c =
    let p = c.plan_of-p in
    let ok = sym c.table_answer-answer.ensures ∙ c.in-Ok.is in
    planned p.ensures.0 p.ensures.1 ok

-- What `plan_of` answers: the plan of its own table, and of an accepted one where the table is.
use Rattle.std.specs.Prelude.{◌≡◌, ◌≤◌}
use Rattle.std.proofs.Common.{sym, ◌∙◌, ap}
use Rattle.isdbs_tables.specs.declared.Table.{Table}
use Rattle.isdbs_tables.specs.Tables.{TableAccepted}
use Rattle.isdbs_plan.specs.declared.Plan.{Plan}
use Rattle.isdbs_plan.specs.RunsOf.{plan_of, Planned}

module _ {t : Table} {p : Plan} (e : p ≡ plan_of t) where
  pub table_is : p.table ≡ t
  table_is = ap (λ (z : Plan). z.table) e

  pub plan_is : p ≡ plan_of p.table
  plan_is = e ∙ ap (λ (z : Table). plan_of z) (sym table_is)

  pub planned : p.count ≤ 4 → TableAccepted t → Planned p
  planned few a = record { is = plan_is; few = few; accepted = rw table_is a }

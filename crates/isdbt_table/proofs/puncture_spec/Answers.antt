-- `puncture_spec` meets its contract.
use Rattle.isdbt_table.proofs.Compiled.{row_at}
use Rattle.isdbt_table.proofs.puncture_spec.Goals as goal

pub returns : goal.returns
returns c = row_at _ c.args.rate c.table_3_8_row-row.result c.table_3_8_row-row.ensures.0

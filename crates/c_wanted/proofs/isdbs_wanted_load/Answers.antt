-- `isdbs_wanted_load` meets its contract.
use Rattle.c_table.specs.Forms.{table_of}
use Rattle.c_mapping.specs.Mappings.{mapping_of, is_set}
use Rattle.c_wanted.proofs.CallLaws.{answered_c, left_c}
use Rattle.c_wanted.proofs.isdbs_wanted_load.Goals as goal

pub returns : goal.returns
returns c =
    let wanted-load = c in
    let mapping-of = wanted-load in
    let a = mapping-of in
    let w = rw (mapping-of.table_of-t.ensures, mapping-of.mapping_of-m.ensures) at wanted-load.wanted_load-r.ensures in record {
      answers = answered_c (table_of a.args.table) (mapping_of a.args.mapping) (is_set a.args.first) a.args.re.now a.args.im.now a.args.bytes.now wanted-load.wanted_load-r.new.bytes wanted-load.wanted_load-r.result c.number_of.result c.number_of.ensures w.answers;
      leaves = left_c (table_of a.args.table) (mapping_of a.args.mapping) (is_set a.args.first) a.args.re.now a.args.im.now a.args.bytes.now wanted-load.wanted_load-r.new.bytes wanted-load.wanted_load-r.result c.number_of.result c.number_of.ensures w.leaves;
    }

-- `isdbs_judge` meets its contract.
use Rattle.c_table.specs.Forms.{table_of}
use Rattle.c_mapping.specs.Mappings.{mapping_of, is_set}
use Rattle.c_judge.proofs.CallLaws.{judged_c}
use Rattle.c_judge.proofs.isdbs_judge.Goals as goal

pub returns : goal.returns
returns c =
    let judge = c in
    let mapping-of = judge in
    let start = mapping-of in
    let a = start.args in
    let j = judge.judge-r in
    let w = rw (mapping-of.table_of-t.ensures, mapping-of.mapping_of-m.ensures) at j.ensures in
    let k = judged_c a.re.now a.im.now a.bytes.now (table_of a.table) (mapping_of a.mapping) (is_set a.first) a.counts.now j.new.counts a.sum.now j.result c.number_of.result c.sum_of.result c.number_of.ensures c.sum_of.ensures w.answers w.leaves w.worth in
    record { answers = k.0; leaves = k.1.0; total = k.1.1.0; worth = k.1.1.1 }

-- `isdbs_best_reading` meets its contract.
use mathlib.Core.Path.{◌≡◌, refl, ◌∙◌}
use mathlib.Core.List.{◌++◌}
use Rattle.isdbs_tables.specs.Tables.{table_rows}
use Rattle.c_table.specs.Forms.{table_of}
use Rattle.c_answers.specs.Answers.{answered}
use Rattle.c_answers.specs.Lengths.{until_length}
use Rattle.isdbs_rows.specs.DecodeRows.{point_rows}
use Rattle.best_frame.specs.Lent.{lent, lengths}
use Rattle.best_frame.specs.BestRows.{last_rows}
use Rattle.c_best.proofs.CallLaws.{seven_c, other_c}
use Rattle.c_best.proofs.isdbs_best_reading.Goals as goal

pub returns-then-scales-ne7 : goal.returns-then-scales-ne7
returns-then-scales-ne7 c =
    let q = c in
    let start = q in
    let a = start.args in
    let n = c.not_scales.result in
    let e : n ≡ answered (until_length (table_rows (table_of a.table))) = c.not_scales.ensures ∙ rw q.table_of-t.ensures refl in
    let l = lengths (lent a.metrics.now a.sides.now a.words.now a.tables.now a.bits.now a.uncoded.now a.bytes.now a.leads.now) in
    let s = other_c (table_of a.table) a.scales.now (point_rows a.re.now a.im.now ++ last_rows (table_of a.table) a.scales.now l) c.if-scales-ne7.true n e refl in
    record { answers = s.0; leaves = s.1.0; keeps = s.1.1 }

pub returns : goal.returns
returns c =
    let p = c in
    let o = p in
    let g = o in
    let q = g in
    let start = q in
    let a = start.args in
    let l = lengths (lent a.metrics.now a.sides.now a.words.now a.tables.now a.bits.now a.uncoded.now a.bytes.now a.leads.now) in
    let w = rw (q.table_of-t.ensures, o.scales_of-all.ensures, g.mapping_of-m.ensures) at p.best_reading-r.ensures in
    let s = seven_c (table_of a.table) a.scales.now (point_rows a.re.now a.im.now ++ last_rows (table_of a.table) a.scales.now l) g.if-scales-ne7.false p.best_reading-r.result c.number.result c.number.ensures w.answers w.leaves in
    record { answers = s.0; leaves = s.1.0; keeps = s.1.1 }

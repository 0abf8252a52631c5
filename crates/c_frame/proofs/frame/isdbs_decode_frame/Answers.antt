-- `isdbs_decode_frame` meets its contract.
use mathlib.Core.Path.{◌≡◌, refl, sym, ◌∙◌, ap}
use lib.ListN.{length}
use Rattle.refusal.specs.Rows.{Answer, first_row, number_of}
use Rattle.refusal.proofs.RowLaws.{zero_accepted}
use Rattle.isdbs_phy.specs.DecodeRows.{decode_rows}
use Rattle.isdbs_tables.specs.Tables.{table_rows}
use Rattle.isdbs_metrics.specs.Scales.{received_by}
use Rattle.strain_marks.specs.Strain.{strain_sum}
use Rattle.c_table.specs.Forms.{table_of}
use Rattle.c_answers.specs.Answers.{answered}
use Rattle.c_answers.specs.Lengths.{until_length}
use Rattle.c_answers.proofs.LengthLaws.{until_refuses}
use Rattle.isdbs_tables.proofs.TableLaws.{table_refusing}
use Rattle.c_frame.specs.Lengths.{scales_rows}
use Rattle.c_frame.specs.LengthLaws.{seven_rows, not_seven}
use Rattle.c_mapping.specs.Mappings.{mapping_of, is_set}
use Rattle.c_answers.specs.AnswerLaws.{kept}
use Rattle.c_frame.proofs.Frames.{decoded, refused}
use Rattle.c_frame.proofs.frame.isdbs_decode_frame.Goals as goal

pub returns-then-scales-ne7 : goal.returns-then-scales-ne7
returns-then-scales-ne7 c =
    let q = c in
    let start = q in
    let a = start.args in
    let n = c.not_scales.result in
    let e : n ≡ answered (until_length (table_rows (table_of a.table))) = c.not_scales.ensures ∙ rw q.table_of-t.ensures refl in
    let h = until_refuses (table_rows (table_of a.table)) (table_refusing (table_of a.table)) n e in
    let w = e ∙ ap number_of (sym (not_seven (table_of a.table) a.re.now a.im.now a.scales.now (length a.decisions.now) (length a.bits.now) (length a.bytes.now) (length a.counts.now) c.if-scales-ne7.true)) in
    record {
      answers = w;
      words = kept n _ _ h;
      decoded = kept n _ _ h;
      load = kept n _ _ h;
      strain = kept n _ _ h;
      total = kept n _ _ h;
    }

pub returns-in-Ok : goal.returns-in-Ok
returns-in-Ok c =
    let p = c in
    let o = p in
    let g = o in
    let q = g in
    let start = q in
    let a = start.args in
    let t : q.table_of-t.result ≡ table_of a.table = q.table_of-t.ensures in
    let z : o.scales_of-all.result ≡ a.scales.now = o.scales_of-all.ensures in
    let m : g.mapping_of-m.result ≡ mapping_of a.mapping = g.mapping_of-m.ensures in
    let k : Answer = first_row (decode_rows q.table_of-t.result a.re.now a.im.now o.scales_of-all.result (length a.decisions.now) (length a.bits.now) (length a.bytes.now) (length a.counts.now)) in
    let seven = seven_rows (table_of a.table) a.re.now a.im.now a.scales.now (length a.decisions.now) (length a.bits.now) (length a.bytes.now) (length a.counts.now) g.if-scales-ne7.false in
    let k-is : k ≡ first_row (scales_rows (table_of a.table) a.re.now a.im.now a.scales.now (length a.decisions.now) (length a.bits.now) (length a.bytes.now) (length a.counts.now)) = rw (t, z) (sym seven) in
    let x = strain_sum q.table_of-t.result (received_by a.re.now a.im.now g.mapping_of-m.result o.scales_of-all.result) (is_set a.known_start) (is_set a.first) in
    let e = p.decode_frame-r.ensures.answers in
    let s = decoded k q.table_of-t.result x p.decode_frame-r.result e c.in-Ok.f c.in-Ok.is in
    let f = p.decode_frame-r.ensures.leaves.0 s.0 in
    record {
      answers = sym (ap number_of s.0) ∙ ap number_of k-is;
      words = f.read.words;
      decoded = f.read.decoded ∙ rw (t, m, z) refl;
      load = f.read.load ∙ rw (t, m, z) refl;
      strain = f.strain ∙ rw (t, m, z) refl;
      total = s.1 ∙ rw (t, m, z) refl;
    }

pub returns-in-Err : goal.returns-in-Err
returns-in-Err c =
    let p = c in
    let o = p in
    let g = o in
    let q = g in
    let start = q in
    let a = start.args in
    let t : q.table_of-t.result ≡ table_of a.table = q.table_of-t.ensures in
    let z : o.scales_of-all.result ≡ a.scales.now = o.scales_of-all.ensures in
    let m : g.mapping_of-m.result ≡ mapping_of a.mapping = g.mapping_of-m.ensures in
    let k : Answer = first_row (decode_rows q.table_of-t.result a.re.now a.im.now o.scales_of-all.result (length a.decisions.now) (length a.bits.now) (length a.bytes.now) (length a.counts.now)) in
    let seven = seven_rows (table_of a.table) a.re.now a.im.now a.scales.now (length a.decisions.now) (length a.bits.now) (length a.bytes.now) (length a.counts.now) g.if-scales-ne7.false in
    let k-is : k ≡ first_row (scales_rows (table_of a.table) a.re.now a.im.now a.scales.now (length a.decisions.now) (length a.bits.now) (length a.bytes.now) (length a.counts.now)) = rw (t, z) (sym seven) in
    let x = strain_sum q.table_of-t.result (received_by a.re.now a.im.now g.mapping_of-m.result o.scales_of-all.result) (is_set a.known_start) (is_set a.first) in
    let e = p.decode_frame-r.ensures.answers in
    let n = refused k q.table_of-t.result x p.decode_frame-r.result e c.in-Err.row c.in-Err.is in
    let w : c.number.result ≡ number_of k = c.number.ensures ∙ n.0 in
    let h : c.number.result ≡ 0 → ⊥ = λ z. n.1 (zero_accepted k (sym w ∙ z)) in
    let l = p.decode_frame-r.ensures.leaves.1 n.1 in
    record {
      answers = w ∙ ap number_of k-is;
      words = l.words ∙ kept c.number.result _ _ h;
      decoded = l.decoded ∙ kept c.number.result _ _ h;
      load = l.load ∙ kept c.number.result _ _ h;
      strain = l.strain ∙ kept c.number.result _ _ h;
      total = kept c.number.result _ _ h;
    }

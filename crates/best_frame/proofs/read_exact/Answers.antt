-- `read_exact` meets its contract.
use native.Mathlib.Omega.{arith}
use lib.ListN.{length}
use Rattle.isdbs_metrics.specs.Scales.{scale_of, received_by}
use Rattle.best_frame.specs.ReadLaws.{metrics_whole, sides_whole, marks_at, marks_long, content_lent, found_long, found_wide, found_bits, found_twos, found_reads}
use Rattle.best_frame.proofs.read_exact.Goals as goal

pub best_content-requires : goal.best_content-requires
best_content-requires c =
    let slot-marks = c in
    let frame-sides = slot-marks in
    let frame-metrics = frame-sides in
    let st = frame-metrics in
    let a = st.args in
    let pre = st.requires in
    let t = a.p.table in
    let ok = pre.0.accepted in
    let r = received_by a.re.now a.im.now a.o.mapping a.o.scales in
    let z = pre.4 in
    let fq = frame-metrics.frame_metrics in
    let sr = frame-sides.frame_sides in
    let sm = slot-marks.slot_marks in
    let em = metrics_whole t ok r a.start a.metrics.now fq.new.metrics fq.ensures z.metrics_are in
    let es = sides_whole t ok r a.start a.sides.now sr.new.sides (sr.ensures (scale_of a.o.scales)) z.sides_are in
    let ma = marks_at t ok r a.start a.marks.now sm.new.marks sm.ensures in
    let ml = marks_long t ok r a.start a.marks.now sm.new.marks sm.ensures pre.5 in
    content_lent t ok r a.start pre.3 fq.new.metrics sr.new.sides sm.new.marks a.tables.now a.words.now a.bits.now a.uncoded.now a.leads.now em es ml ma (omega (arith, z.tables_are)) (omega (arith, z.words_are)) z.bits_are z.uncoded_are z.leads_are

pub write_load-requires : goal.write_load-requires
write_load-requires c =
    let best-content = c in
    let slot-marks = best-content in
    let frame-sides = slot-marks in
    let frame-metrics = frame-sides in
    let st = frame-metrics in
    let a = st.args in
    let pre = st.requires in
    let t = a.p.table in
    let ok = pre.0.accepted in
    let r = received_by a.re.now a.im.now a.o.mapping a.o.scales in
    let z = pre.4 in
    let v = length a.leads.now in
    let fq = frame-metrics.frame_metrics in
    let sr = frame-sides.frame_sides in
    let sm = slot-marks.slot_marks in
    let em = metrics_whole t ok r a.start a.metrics.now fq.new.metrics fq.ensures z.metrics_are in
    let es = sides_whole t ok r a.start a.sides.now sr.new.sides (sr.ensures (scale_of a.o.scales)) z.sides_are in
    let ma = marks_at t ok r a.start a.marks.now sm.new.marks sm.ensures in
    let bc = best-content.best_content in
    let l = found_long t ok r a.start v z.leads_are fq.new.metrics sr.new.sides sm.new.marks bc.new.bits bc.new.uncoded bc.new.leads em es ma bc.ensures in
    let w = found_wide t ok r a.start v z.leads_are fq.new.metrics sr.new.sides sm.new.marks bc.new.bits bc.new.uncoded bc.new.leads em es ma bc.ensures in
    let zb = z.bytes_are in
    (pre.0, omega arith, omega arith, found_bits t ok r a.start v z.leads_are fq.new.metrics sr.new.sides sm.new.marks bc.new.bits bc.new.uncoded bc.new.leads em es ma bc.ensures, found_twos t ok r a.start v z.leads_are fq.new.metrics sr.new.sides sm.new.marks bc.new.bits bc.new.uncoded bc.new.leads em es ma bc.ensures, omega arith)

pub returns : goal.returns
returns c =
    let best-content = c in
    let slot-marks = best-content in
    let frame-sides = slot-marks in
    let frame-metrics = frame-sides in
    let st = frame-metrics in
    let a = st.args in
    let pre = st.requires in
    let t = a.p.table in
    let ok = pre.0.accepted in
    let r = received_by a.re.now a.im.now a.o.mapping a.o.scales in
    let z = pre.4 in
    let v = length a.leads.now in
    let fq = frame-metrics.frame_metrics in
    let sr = frame-sides.frame_sides in
    let sm = slot-marks.slot_marks in
    let em = metrics_whole t ok r a.start a.metrics.now fq.new.metrics fq.ensures z.metrics_are in
    let es = sides_whole t ok r a.start a.sides.now sr.new.sides (sr.ensures (scale_of a.o.scales)) z.sides_are in
    let ma = marks_at t ok r a.start a.marks.now sm.new.marks sm.ensures in
    let bc = best-content.best_content in
    let cb = c.write_load in
    found_reads t ok r a.start v z.leads_are fq.new.metrics sr.new.sides sm.new.marks bc.new.bits bc.new.uncoded bc.new.leads em es ma bc.ensures a.bytes.now cb.new.bytes cb.ensures z.bytes_are

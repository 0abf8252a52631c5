-- `demod::decode_frame_one_scale` meets its contract: that of `decode_frame` at seven equal scales.
use mathlib.Core.Path.{◌≡◌, sym, ◌∙◌, ap, subst}
use lib.ListN.{length, replicate}
use Rattle.refusal.specs.Rows.{Answer, first_row}
use Rattle.isdbs_metrics.specs.Reading.{Received}
use Rattle.strain_marks.specs.Strain.{strain_sum}
use Rattle.isdbs_phy.specs.DecodeRows.{decode_rows, one_scale_rows, frame_answer, FrameLeft}
use Rattle.isdbs_rows.specs.ScaleLaws.{equal_rows}
use Rattle.isdbs_metrics.specs.ScaleLaws.{equal_scales}
use Rattle.isdbs_metrics.specs.Scales.{received_by}
use Rattle.isdbs_phy.proofs.demod.decode_frame_one_scale.Goals as goal

pub returns : goal.returns
returns c =
    let decode-frame = c in
    let start = decode-frame in
    let d = decode-frame.decode_frame in
    let a = start.args in
    let s = a.o.llr_scale in
    let n = length a.decisions.now in
    let b = length a.bits.now in
    let y = length a.bytes.now in
    let k = length a.counts.now in
    let rx = received_by a.re.now a.im.now a.o.mapping (replicate 7 s) in
    let one = equal_scales a.re.now a.im.now a.o.mapping s in
    let rows : first_row (decode_rows a.t a.re.now a.im.now (replicate 7 s) n b y k) ≡ first_row (one_scale_rows a.t a.re.now a.im.now s n b y k) = ap first_row (equal_rows a.t a.re.now a.im.now s n b y k) in
    record {
      answers = d.ensures.answers ∙ ap (λ (z : Answer). frame_answer z a.t (strain_sum a.t rx a.o.known_start a.first)) rows ∙ ap (λ (z : Received). frame_answer (first_row (one_scale_rows a.t a.re.now a.im.now s n b y k)) a.t (strain_sum a.t z a.o.known_start a.first)) one;
      leaves = (
        (λ q.
            subst (λ (z : Received). FrameLeft a.t z a.o.known_start a.first a.decisions.now d.new.decisions a.bits.now d.new.bits a.bytes.now d.new.bytes a.counts.now d.new.counts) one
            (d.ensures.leaves.0 (rows ∙ q))),
        (λ q. d.ensures.leaves.1 (λ z. q (sym rows ∙ z))),
      );
    }

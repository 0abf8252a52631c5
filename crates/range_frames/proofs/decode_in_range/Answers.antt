-- `range_frames::decode_in_range` meets its contract: that of `decode_frame`, and the theorem about the ranges.
use lib.Dec.{T}
use Prim.Native.Nat.{ℕ}
use lib.Ieee.{nan, binary32, fits}
use lib.ListN.{length, get_or}
use Rattle.trellis.specs.Isdb.{rule}
use Rattle.range_metrics.proofs.Accepted.{frame_ranges}
use Rattle.range_metrics.proofs.Elements.{elem_fits}
use Rattle.range_frames.proofs.decode_in_range.Goals as goal

pub returns : goal.returns
returns c =
    let d = c.decode_frame in
    let a = c.args in
    let g = c.well_formed.1.1.1.1.0.1.1.1.1.0 in
    let scale : (i : ℕ) → T (fits binary32 (get_or a.o.scales i nan)) = λ i. elem_fits a.o.scales g.0 i g.1.1 in
    record {
      answers = d.ensures.answers;
      leaves = d.ensures.leaves;
      ranges = λ yes.
          frame_ranges rule a.t a.re.now a.im.now a.o.mapping a.o.scales (length a.decisions.now) (length a.bits.now) (length a.bytes.now) (length a.counts.now) a.o.known_start a.first c.type_inv.re c.type_inv.im scale yes;
    }

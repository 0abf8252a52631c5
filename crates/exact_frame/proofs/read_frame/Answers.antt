-- `exact_frame::read_frame` meets its contract: that of `decode_frame` at a known start and the scale 8, and the theorem about it.
use lib.Ieee.{of_bits}
use Rattle.exact_frame.proofs.CallLaws.{read_back}
use Rattle.exact_frame.proofs.read_frame.Goals as goal

pub returns : goal.returns
unfolding of_bits
returns c =
    let d = c.decode_frame in
    let a = c.args in
    record {
      answers = d.ensures.answers;
      leaves = d.ensures.leaves;
      exact = λ load fit full w.
          read_back a.t fit a.mapping a.first load full a.re.now a.im.now w a.decisions.now d.new.decisions a.bits.now d.new.bits
          a.bytes.now
          d.new.bytes
          a.counts.now
          d.new.counts
          d.result
          d.ensures.answers
          d.ensures.leaves;
    }

-- `conv::ViterbiDecoder::new_unknown_state` meets its contract.
use Rattle.isdb_fec.proofs.conv.ViterbiDecoder.new_unknown_state.Goals as goal

pub returns : goal.returns
returns c = record { answers = c.fresh.ensures.answers; made = rw c.start_unknown.ensures at c.fresh.ensures.made }

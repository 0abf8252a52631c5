-- `not_states` meets its contract.
use lib.ListN.{take}
use Rattle.isdb_fec.specs.Rows.{handed_rows}
use Rattle.c_answers.proofs.LengthLaws.{until_length_lem}
use Rattle.c_decoder.specs.Decoders.{decoder_of}
use Rattle.c_decoder.proofs.not_states.Goals as goal

pub returns : goal.returns
returns c =
    let a = c.args in
    until_length_lem (handed_rows (decoder_of (take 64 a.pm.now) a.held a.traceback)) tt c.answer_lent.result c.answer_lent.ensures c.or_length.result c.or_length.ensures

-- What a reading answers that makes its own decoder: turned back, the row and that decoder.
use Rattle.std.specs.Prelude.{replicate, Result, Ok, Err}
use Rattle.std.specs.Float.{binary32}
use Rattle.std.specs.Float.Ieee.{of_bits}
use Rattle.refusal.specs.declared.Refusal.{Refusal}
use Rattle.refusal.specs.Rows.{Answer, Accepted}
use Rattle.trellis.specs.Isdb
use Rattle.isdb_fec.specs.declared.conv.ViterbiDecoder.{ViterbiDecoder}
use Rattle.range_calls.specs.declared.TurnedBack.{TurnedBack}

-- what stands in place of a decoder that is refused: every call refuses it by row 3
abbrev pub zeros : ViterbiDecoder
zeros = record { pm = replicate Isdb.states (of_bits binary32 0); held = 0; traceback = 0 }

-- the answer alone
abbrev pub row_of : {A : Type 0} → Result A TurnedBack → Answer
row_of (Ok _) = Accepted
row_of (Err t) = Err t.row

-- the answer of the calls on the decoder v, which the reading made
abbrev pub turned : {A : Type 0} → ViterbiDecoder → Result A Refusal → Result A TurnedBack
turned v (Ok x) = Ok x
turned v (Err row) = Err (record { row = row; dec = v })

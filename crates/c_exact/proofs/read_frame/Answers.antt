-- `c_exact::read_frame` meets its contract: that of `isdbs_decode_frame` at a known start and all seven scales at 8, and the theorem about it.
use mathlib.Core.Path.{refl, ◌∙◌, ap}
use lib.ListN.{length}
use lib.Ieee.{of_bits}
use Rattle.refusal.specs.Rows.{number_of}
use Rattle.exact_frame.specs.Call.{eights}
use Rattle.c_frame.specs.LengthLaws.{seven_rows}
use Rattle.c_table.specs.Forms.{table_of}
use Rattle.c_mapping.specs.Mappings.{mapping_of, is_set}
use Rattle.c_exact.proofs.CallLaws.{reads_back}
use Rattle.c_exact.proofs.read_frame.Goals as goal

pub returns : goal.returns
unfolding of_bits
returns c =
    let d = c.isdbs_decode_frame in
    let n = d.new in
    let e = d.ensures in
    let a = c.args in
    let t = table_of a.table in
    let seven = seven_rows t a.re.now a.im.now eights (length a.decisions.now) (length a.bits.now) (length a.bytes.now) (length a.counts.now) refl in
    let w = e.answers ∙ ap number_of seven in
    record {
      answers = w;
      words = e.words;
      decoded = e.decoded;
      load = e.load;
      strain = e.strain;
      total = e.total;
      exact = reads_back t (mapping_of a.mapping) (is_set a.first) a.re.now a.im.now a.decisions.now n.decisions a.bits.now n.bits a.bytes.now n.bytes a.counts.now n.counts a.sum.now n.sum d.result w e.words e.decoded e.load e.strain e.total;
    }

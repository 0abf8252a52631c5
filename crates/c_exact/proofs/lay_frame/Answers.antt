-- `c_exact::lay_frame` meets its contract: that of `isdbs_encode_frame`, and where its frame lies.
use Rattle.c_table.specs.Forms.{table_of}
use Rattle.c_mapping.specs.Mappings.{mapping_of}
use Rattle.c_exact.proofs.CallLaws.{lays}
use Rattle.c_exact.proofs.lay_frame.Goals as goal

pub returns : goal.returns
returns c =
    let d = c.isdbs_encode_frame in
    let e = d.ensures in
    let a = c.args in
    record {
      answers = e.answers;
      real = e.real;
      imaginary = e.imaginary;
      state = e.state;
      within = lays d.result (table_of a.table) (mapping_of a.mapping) a.bytes.now a.state a.re.now a.im.now d.new.re d.new.im e.real e.imaginary;
    }

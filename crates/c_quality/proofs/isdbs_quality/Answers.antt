-- `isdbs_quality` meets its contract.
use mathlib.Core.Path.{◌≡◌, sym, ◌∙◌, ap}
use Prim.Native.Nat.{ℕ, ◌-◌}
use mathlib.Core.List.{List}
use lib.Ieee.{Float}
use Rattle.trellis.specs.Lists.{laid}
use Rattle.refusal.specs.Rows.{number_of}
use Rattle.c_answers.specs.Answers.{left}
use Rattle.c_table.specs.Forms.{table_of}
use Rattle.c_mapping.specs.Mappings.{mapping_of, is_set}
use Rattle.quality.specs.Qualities.{qualities}
use Rattle.c_quality.proofs.isdbs_quality.Goals as goal

pub returns : goal.returns
returns c =
    let a = c.args in
    let q = c.quality-a in
    let w = rw (c.table_of-t.ensures, c.mapping_of-m.ensures) at q.ensures in
    let m : c.number.result ≡ number_of q.result = c.number.ensures in
    let new : List Float = laid (qualities a.re.now a.im.now a.bytes.now (table_of a.table) (mapping_of a.mapping) (is_set a.first)) a.out.now in record {
      answers = m ∙ ap number_of w.answers;
      leaves = w.leaves ∙ ap (λ (k : ℕ). left k new a.out.now) (sym m);
    }

use mathlib.Core.Path.{refl}
use Rattle.c_header.specs.CallLaws.{stored}
use Rattle.c_header.proofs.put_header.Goals as goal

pub returns : goal.returns
returns c =
    let st = c in record { kind = c.kind_of.ensures; turn = refl; real = rw c.sum_of.ensures (stored st.args.h.re st.requires.0); imaginary = rw c.sum_of-2.ensures (stored st.args.h.im st.requires.1) }

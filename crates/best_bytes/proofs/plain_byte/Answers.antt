-- `plain_byte` meets its contract.
use Prim.Native.Nat.{◌+◌}
use Rattle.best_bytes.specs.Packed.{plain_made}
use Rattle.best_bytes.proofs.plain_byte.Goals as goal

pub byte_of-requires : goal.byte_of-requires
byte_of-requires c =
    let st = c in
    let h = st.requires.1 in
    (h st.args.at, h (st.args.at + 1), h (st.args.at + 2), h (st.args.at + 3), h (st.args.at + 4), h (st.args.at + 5), h (st.args.at + 6), h (st.args.at + 7))

pub returns : goal.returns
returns c =
    let st = c in
    plain_made st.args.bits.now st.args.at c.byte_of.result c.byte_of.ensures

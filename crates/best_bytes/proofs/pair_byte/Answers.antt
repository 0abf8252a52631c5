-- `pair_byte` meets its contract.
use Prim.Native.Nat.{◌+◌}
use Rattle.best_bytes.specs.Packed.{pair_made}
use Rattle.best_bytes.proofs.pair_byte.Goals as goal

pub byte_of-requires : goal.byte_of-requires
byte_of-requires c =
    let st = c in
    let h = st.requires.2 in
    let z = st.requires.3 in
    (z st.args.at, h st.args.at, z (st.args.at + 1), h (st.args.at + 1), z (st.args.at + 2), h (st.args.at + 2), z (st.args.at + 3), h (st.args.at + 3))

pub returns : goal.returns
returns c =
    let st = c in
    pair_made st.args.bits.now st.args.uncoded.now st.args.at c.byte_of.result c.byte_of.ensures

-- `decode_bits` meets its contract.
use Rattle.decode_main.proofs.decode_bits.Goals as goal

pub returns : goal.returns
returns c =
    let read-end = c in
    let read-runs = read-end in
    let st = read-runs in
    let rr = read-runs.read_runs-at.ensures in
    record { read = read-end.read_end.ensures.ends _ _ _ st.requires.3 rr.read.holds; marked = rr.marked }

-- `step` meets its contract.
use Rattle.bench_checksum.specs.Crc.{stepped}
use Rattle.bench_checksum.proofs.step.Goals as goal

pub returns : goal.returns
unfolding stepped
returns c =
    let c7 = c in
    let c6 = c7 in
    let c5 = c6 in
    let c4 = c5 in
    let c3 = c4 in
    let c2 = c3 in
    let c1 = c2 in
    rw (c.shift-7.ensures, c7.shift-6.ensures, c6.shift-5.ensures, c5.shift-4.ensures, c4.shift-a.ensures, c3.shift-3.ensures, c2.shift-2.ensures, c1.shift.ensures, c1.from.ensures)

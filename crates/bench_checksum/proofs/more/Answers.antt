use Rattle.std.proofs.Common.{sym, ◌∙◌}
use lib.ListN.{drop_of_length-le}
use Rattle.bench_checksum.specs.Crc.{register}
use Rattle.bench_checksum.proofs.Laws.{register_next}
use Rattle.bench_checksum.proofs.more.Goals as goal

pub loop-b-preserved : goal.loop-b-preserved
loop-b-preserved c =
    let l = c.loop-b in
    rw c.step-t.ensures (sym (register_next l.t c.args.s.now l.b-index c.loop-b-test.true) ∙ l.invariant)

pub returns : goal.returns
unfolding register
returns c =
    let l = c.loop-b in
    rw (← l.invariant, drop_of_length-le c.args.s.now c.loop-b-test.false)

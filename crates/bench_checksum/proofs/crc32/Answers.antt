-- `crc32` meets its contract.
use Rattle.bench_checksum.specs.Crc.{checksum}
use Rattle.bench_checksum.proofs.crc32.Goals as goal

pub returns : goal.returns
unfolding checksum
returns c = rw (c.ended.ensures, c.more.ensures)

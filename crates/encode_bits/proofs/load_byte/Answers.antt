-- `load_byte` meets its contract.
use borrow.Author.Rules.{rules}
use lib.ListN.{get_or-eq_default}
use Rattle.encode_bits.proofs.load_byte.Goals as goal

pub returns-else-at-bytes : goal.returns-else-at-bytes
returns-else-at-bytes c = rw (get_or-eq_default c.args.bytes.now 0 {n = c.args.at} (search rules))

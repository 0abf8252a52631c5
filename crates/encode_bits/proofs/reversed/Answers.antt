-- `reversed` meets its contract.
use borrow.Author.Rules.{rules}
use Rattle.encode_bits.specs.Windows.{backward}
use Rattle.encode_bits.proofs.reversed.Goals as goal

pub returns : goal.returns
unfolding backward
returns c = search rules

-- `label_at` meets its contract.
use Rattle.wanted_read.proofs.label_at.Goals as goal

pub returns : goal.returns
returns c = rw c.symbol.ensures at c.psk8_label.ensures

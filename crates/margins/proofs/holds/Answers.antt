-- `holds` meets its contract.
use Rattle.margins.proofs.holds.Goals as goal

pub returns : goal.returns
returns c = rw (c.chosen_test.ensures, c.keeps.ensures, c.accepted.ensures)

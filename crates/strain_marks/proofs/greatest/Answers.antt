-- `greatest` meets its contract.
use Rattle.strain_marks.specs.Marks.{top_of}
use Rattle.strain_marks.proofs.greatest.Goals as goal

pub returns : goal.returns
unfolding top_of
returns c = rw (c.larger-4.ensures, c.larger-3.ensures, c.larger-2.ensures, c.larger.ensures, c.lowest.ensures)

-- `keeps` meets its contract.
use lib.Ieee.{of_bits, neg}
use Rattle.margins.specs.Margins.{keeps}
use Rattle.margins.proofs.keeps.Goals as goal

pub returns : goal.returns
unfolding keeps of_bits neg
returns c =
    let between5 = c in
    let between3 = between5 in
    let between = between3 in
    rw (c.chosen_test.ensures, c.chosen_test-b.ensures, c.chosen_test-c.ensures, c.chosen_test-d.ensures, between5.between-minus_root.ensures, between5.between-root.ensures, between3.between-minus_one.ensures, between3.between-one.ensures, between.between-zero.ensures)

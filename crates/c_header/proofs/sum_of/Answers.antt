use Rattle.c_header.specs.CallLaws.{sum_small, held, stored}
use Rattle.c_header.specs.Calls.{sum_of}
use Rattle.c_header.proofs.sum_of.Goals as goal

pub overflow_sub-result : goal.overflow_sub-result
unfolding sum_of
overflow_sub-result c = rw (held c.args.sum c.requires) (sum_small c.args.sum c.requires)

pub returns : goal.returns
unfolding sum_of
returns c = rw (held c.args.sum c.requires) (stored c.args.sum c.requires)

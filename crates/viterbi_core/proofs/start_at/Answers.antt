-- `viterbi_core::start_at` meets its contract.
use Prim.Native.Nat.{◌%◌}
use borrow.Author.Rules.{rules}
use lib.Ieee.{binary32, neg, of_bits}
use Rattle.trellis.specs.Run.{start_at}
use Rattle.trellis.specs.ListLaws.{set_replicate}
use borrow.Author.Rules.{rules}
use Rattle.viterbi_core.proofs.start_at.Goals as goal

pub returns : goal.returns
unfolding start_at of_bits neg
returns c = set_replicate 64 (c.args.state % 64) (of_bits binary32 0xc974_2400) (of_bits binary32 0) (search rules)

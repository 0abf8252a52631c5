-- `viterbi_release::trace` meets its contract: the state after `count` steps, and the bits of the words before.
use native.Mathlib.Omega.{arith}
use borrow.Author.Rules.{rules}
use Rattle.viterbi_release.proofs.Halfway.{halfway}
use Rattle.viterbi_release.proofs.trace.Goals as goal

pub trace_all-requires : goal.trace_all-requires
trace_all-requires c = (c.state_after-s.ensures.0, omega arith, search rules)

pub returns : goal.returns
returns c =
    let all = c in
    let first = all in
    let start = first in
    let d = start.args.decisions.now in
    rw (← halfway d start.args.n start.args.state start.args.count start.requires.1 start.requires.2, ← first.state_after-s.ensures.1) all.trace_all.ensures

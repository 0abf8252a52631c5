-- `cases_fec::count_known` is safe.
use mathlib.Core.Path.{sym}
use lib.Seq.{length-take-le}
use borrow.Author.Rules.{rules}
use Rattle.cases_fec.proofs.count_known.Goals as goal

pub slice_bounds-push_known-end : goal.slice_bounds-push_known-end
slice_bounds-push_known-end c =
    let a = c.args in
    sym (length-take-le a.n a.bits.now (search rules))

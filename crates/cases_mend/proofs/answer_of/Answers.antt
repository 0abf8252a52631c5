-- `answer_of` is safe and ends.
use mathlib.Core.Path.{sym}
use lib.Seq.{length-take-le}
use borrow.Author.Rules.{rules}
use Rattle.cases_mend.proofs.answer_of.Goals as goal

pub slice_bounds-mend_stretch-end : goal.slice_bounds-mend_stretch-end
slice_bounds-mend_stretch-end c =
    let start = c in
    let a = start.args in
    sym (length-take-le a.n a.bits.now (search rules))

pub slice_bounds-mend_stretch-end-3 : goal.slice_bounds-mend_stretch-end-3
slice_bounds-mend_stretch-end-3 c =
    let start = c in
    let a = start.args in
    sym (length-take-le a.words a.decisions.now (search rules))

pub slice_bounds-mend_stretch-end-5 : goal.slice_bounds-mend_stretch-end-5
slice_bounds-mend_stretch-end-5 c =
    let start = c in
    let a = start.args in
    sym (length-take-le a.places a.out.now (search rules))

pub slice_bounds-mend_stretch-end-7 : goal.slice_bounds-mend_stretch-end-7
slice_bounds-mend_stretch-end-7 c =
    let start = c in
    let a = start.args in
    sym (length-take-le a.positions a.list.now (search rules))

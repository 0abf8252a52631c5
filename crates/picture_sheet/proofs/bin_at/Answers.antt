use Rattle.std.proofs.Common.{T, sym, subst, arith, le-leb}
use lib.Ieee.{of_bits, neg}
use borrow.Author.Tests.{lt-leb}
use Rattle.picture_sheet.specs.Places.{bin_at}
use Rattle.picture_sheet.proofs.bin_at.Goals as goal

pub truncating_f64_to_u64-n-requires : goal.truncating_f64_to_u64-n-requires
unfolding of_bits neg
truncating_f64_to_u64-n-requires c =
    record { lower_bound = subst T (sym c.if-t.true) tt; upper_bound = subst T (sym c.if-t-2.true) tt }

pub returns-then-n-le191 : goal.returns-then-n-le191
unfolding bin_at
returns-then-n-le191 c =
    let r = c.truncating_f64_to_u64-n.ensures in
    let e = le-leb c.truncating_f64_to_u64-n.result 191 (omega arith) in
    (rw (c.if-t.true, c.if-t-2.true, ← r, e), omega arith)

pub returns-then-t-2 : goal.returns-then-t-2
unfolding bin_at
returns-then-t-2 c =
    let r = c.truncating_f64_to_u64-n.ensures in
    let e = lt-leb c.truncating_f64_to_u64-n.result 191 (omega arith) in
    (rw (c.if-t.true, c.if-t-2.true, ← r, e), omega arith)

pub returns-then-t : goal.returns-then-t
unfolding bin_at
returns-then-t c = (rw (c.if-t.true, c.if-t-2.false), omega arith)

pub returns : goal.returns
unfolding bin_at
returns c = (rw c.if-t.false, omega arith)

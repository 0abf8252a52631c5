-- `scale` meets its contract.
use Rattle.std.proofs.Common.{length, arith, le-leb}
use Rattle.bench_line.specs.NumberLaws.{most, digits_below}
use borrow.Author.Tests.{lt-leb}
use Rattle.bench_line.specs.Numbers.{scale_of}
use Rattle.bench_line.proofs.words.scale.Goals as goal

pub returns-then-count-gt2 : goal.returns-then-count-gt2
unfolding scale_of
returns-then-count-gt2 c = rw (← c.parts-count.ensures, lt-leb _ _ c.if-count-gt2.true)

pub returns-then-before-gt3 : goal.returns-then-before-gt3
unfolding scale_of
returns-then-before-gt3 c =
    let at = c in
    rw (← at.parts-count.ensures, le-leb _ _ c.if-count-gt2.false, ← at.part-before.ensures, lt-leb _ _ c.if-before-gt3.true)

pub returns-then-n-gt3 : goal.returns-then-n-gt3
unfolding scale_of
returns-then-n-gt3 c =
    let at = c in
    rw (
      ← at.parts-count.ensures,
      le-leb _ _ c.if-count-gt2.false,
      ← at.part-before.ensures,
      le-leb _ _ c.if-before-gt3.false,
      ← at.part-after.ensures,
      lt-leb _ _ c.if-n-gt3.true,
    )

pub scale_from-requires : goal.scale_from-requires
unfolding most
scale_from-requires c =
    let third = c in
    let at = third in (
      third.if-n-gt3.false,
      (
        rw c.digits.ensures (digits_below 3 at.part-before.result.now third.if-before-gt3.false),
        rw c.digits-2.ensures (digits_below (length at.part-after.result.now) at.part-after.result.now (omega arith)),
      ),
    )

pub returns : goal.returns
unfolding scale_of
returns c =
    let both = c in
    let third = both in
    let at = third in
    rw (
      ← at.parts-count.ensures,
      le-leb _ _ third.if-count-gt2.false,
      ← at.part-before.ensures,
      le-leb _ _ third.if-before-gt3.false,
      ← at.part-after.ensures,
      le-leb _ _ third.if-n-gt3.false,
      c.scale_from.ensures,
      both.digits.ensures,
      both.digits-2.ensures,
    )

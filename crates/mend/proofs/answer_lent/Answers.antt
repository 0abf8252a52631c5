-- `mend::answer_lent` meets its contract.
use mathlib.Core.Path.{refl, sym, ◌∙◌}
use Prim.Native.Nat.{◌%◌}
use borrow.Author.Tests.{lt-ltb, le-ltb, eq-eqb, ne_eqb}
use lib.ListN.{length}
use Rattle.mend.proofs.answer_lent.Goals as goal

pub returns-then-bits-ne0 : goal.returns-then-bits-ne0
returns-then-bits-ne0 c =
    let a = c.args in
    rw (ne_eqb (length a.bits.now % 2) 0 c.if-bits-ne0.true) refl

pub returns-then-bits-gt-MOST_BITS : goal.returns-then-bits-gt-MOST_BITS
returns-then-bits-gt-MOST_BITS c =
    let a = c.args in
    rw (eq-eqb (length a.bits.now % 2) 0 c.if-bits-ne0.false, lt-ltb 8192 (length a.bits.now) c.if-bits-gt-MOST_BITS.true) refl

pub returns-then-some_no_bit : goal.returns-then-some_no_bit
returns-then-some_no_bit c =
    let a = c.args in
    rw (eq-eqb (length a.bits.now % 2) 0 c.if-bits-ne0.false, le-ltb 8192 (length a.bits.now) c.if-bits-gt-MOST_BITS.false, sym c.some_no_bit.ensures ∙ c.if-some_no_bit.true) refl

pub returns-then-out-bits : goal.returns-then-out-bits
returns-then-out-bits c =
    let a = c.args in
    rw (eq-eqb (length a.bits.now % 2) 0 c.if-bits-ne0.false, le-ltb 8192 (length a.bits.now) c.if-bits-gt-MOST_BITS.false, sym c.some_no_bit.ensures ∙ c.if-some_no_bit.false, lt-ltb a.out (length a.bits.now) c.if-out-bits.true) refl

pub returns-then-list-lt-PLACES : goal.returns-then-list-lt-PLACES
returns-then-list-lt-PLACES c =
    let a = c.args in
    rw (eq-eqb (length a.bits.now % 2) 0 c.if-bits-ne0.false, le-ltb 8192 (length a.bits.now) c.if-bits-gt-MOST_BITS.false, sym c.some_no_bit.ensures ∙ c.if-some_no_bit.false, le-ltb a.out (length a.bits.now) c.if-out-bits.false, lt-ltb a.list 4 c.if-list-lt-PLACES.true) refl

pub returns-then-decisions-lt-FRAME_WORDS : goal.returns-then-decisions-lt-FRAME_WORDS
returns-then-decisions-lt-FRAME_WORDS c =
    let some-no-bit = c in
    let if1 = some-no-bit in
    let start = if1 in
    let a = start.args in
    rw (eq-eqb (length a.bits.now % 2) 0 if1.if-bits-ne0.false, le-ltb 8192 (length a.bits.now) some-no-bit.if-bits-gt-MOST_BITS.false, sym some-no-bit.some_no_bit.ensures ∙ c.if-some_no_bit.false, le-ltb a.out (length a.bits.now) c.if-out-bits.false, le-ltb a.list 4 c.if-list-lt-PLACES.false, lt-ltb a.decisions 4224 c.if-decisions-lt-FRAME_WORDS.true) refl

pub returns : goal.returns
returns c =
    let some-no-bit = c in
    let if1 = some-no-bit in
    let start = if1 in
    let a = start.args in
    rw (eq-eqb (length a.bits.now % 2) 0 if1.if-bits-ne0.false, le-ltb 8192 (length a.bits.now) some-no-bit.if-bits-gt-MOST_BITS.false, sym some-no-bit.some_no_bit.ensures ∙ c.if-some_no_bit.false, le-ltb a.out (length a.bits.now) c.if-out-bits.false, le-ltb a.list 4 c.if-list-lt-PLACES.false, le-ltb a.decisions 4224 c.if-decisions-lt-FRAME_WORDS.false) refl

use Rattle.std.proofs.Common.{◌≡◌, ◌<◌, ◌≤◌, length, refl, arith, lit<, drop_of_length-le, rules, le-leb, None, Some}
use borrow.Author.Tests.{lt-leb}
use Rattle.bench_line.specs.Numbers.{digit_of, number_from, digits_of}
use Rattle.bench_line.specs.NumberLaws.{most, most_next, most_six, number_next, digits_within}
use Rattle.bench_line.proofs.Digits.{some_digit, no_digit}
use Rattle.bench_line.proofs.words.digits.Goals as goal

pub returns-then-is_empty : goal.returns-then-is_empty
unfolding digits_of
returns-then-is_empty c =
    let e : length c.args.s.now ≡ 0 = search rules in
    rw e

pub returns-then-s-gt7 : goal.returns-then-s-gt7
unfolding digits_of
returns-then-s-gt7 c = rw (lt-leb _ _ c.if-s-gt7.true)

pub loop-b-init : goal.loop-b-init
unfolding most
loop-b-init c = record { small = lit< tt; rest = refl }

pub returns-in_err-value : goal.returns-in_err-value
returns-in_err-value c =
    let s = c.args.s.now in
    let i = c.loop-b.b-index in
    let h = c.loop-b-test.true in
    let p : 0 < length s = omega arith in
    let e = no_digit _ (rw c.in_err-value.was at c.digit.ensures) in
    rw (c.from_residual.ensures, digits_within s p c.if-s-gt7.false, ← c.loop-b.invariant.rest, number_next c.loop-b.value s i h, e)

pub overflow_mul-value : goal.overflow_mul-value
overflow_mul-value c =
    let m = most_six c.loop-b.b-index (omega arith) in
    let v = c.loop-b.invariant.small in
    search rules

pub overflow_add-value : goal.overflow_add-value
overflow_add-value c =
    let m = most_six c.loop-b.b-index (omega arith) in
    let v = c.loop-b.invariant.small in
    let d = some_digit _ _ (rw c.in_ok-value.was at c.digit.ensures) in
    search rules

pub loop-b-preserved : goal.loop-b-preserved
loop-b-preserved c =
    let s = c.args.s.now in
    let i = c.loop-b.b-index in
    let e = most_next i in
    let v = c.loop-b.invariant.small in
    let d = some_digit _ _ (rw c.in_ok-value.was at c.digit.ensures) in
    record {
      small = omega (arith, e, v, d.0, d.1);
      rest = rw (← c.loop-b.invariant.rest, number_next c.loop-b.value s i c.loop-b-test.true, le-leb _ _ d.0, d.1);
    }

pub returns : goal.returns
unfolding number_from
returns c =
    let s = c.args.s.now in
    let p : 0 < length s = search rules in
    rw (digits_within s p c.if-s-gt7.false, ← c.loop-b.invariant.rest, drop_of_length-le s c.loop-b-test.false)

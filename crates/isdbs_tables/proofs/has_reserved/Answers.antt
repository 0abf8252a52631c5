use Prim.Native.Nat.{◌-◌, ◌<◌}
use Rattle.isdbs_tables.proofs.EntryLaws.{some_found, some_passed, some_end}
use Rattle.isdbs_tables.specs.Tables.{reserved_word}
use lib.ListN.{length, length-map}
use mathlib.Core.Path.{◌≡◌, refl, sym, ◌∙◌}
use native.Mathlib.Omega.{arith}
use Rattle.isdbs_tables.proofs.has_reserved.Goals as goal

pub loop-i-init : goal.loop-i-init
loop-i-init c = (omega arith, refl)

pub returns-then-reserved_word : goal.returns-then-reserved_word
returns-then-reserved_word c =
    let at = c in
    let es = at.args.t.entries in
    let four : length es ≡ 4 = omega arith in
    let h : at.loop-i.i < length es = omega arith in
    sym (some_found es at.loop-i.i reserved_word c.reserved_word.result c.reserved_word.ensures h c.if-reserved_word.true) ∙ at.loop-i.invariant.1

pub loop-i-preserved : goal.loop-i-preserved
loop-i-preserved c =
    let at = c in
    let es = at.args.t.entries in
    let four : length es ≡ 4 = omega arith in
    let h : at.loop-i.i < length es = omega arith in
    (omega arith, sym (some_passed es at.loop-i.i reserved_word c.reserved_word.result c.reserved_word.ensures h c.if-reserved_word.false) ∙ at.loop-i.invariant.1)

pub returns : goal.returns
returns c =
    let at = c in
    let es = at.args.t.entries in
    let four : length es ≡ 4 = omega arith in
    sym (some_end es at.loop-i.i reserved_word (omega arith)) ∙ at.loop-i.invariant.1

use Prim.Native.Nat.{◌-◌, ◌<◌}
use Rattle.isdbs_tables.proofs.EntryLaws.{some_found, some_passed, some_end}
use Rattle.isdbs_tables.specs.Tables.{part_unit}
use lib.ListN.{length, length-map}
use mathlib.Core.Path.{◌≡◌, refl, sym, ◌∙◌}
use native.Mathlib.Omega.{arith}
use Rattle.isdbs_tables.proofs.has_part.Goals as goal

pub loop-i-init : goal.loop-i-init
loop-i-init c = (omega arith, refl)

pub returns-then-part_unit : goal.returns-then-part_unit
returns-then-part_unit c =
    let at = c in
    let es = at.args.t.entries in
    let four : length es ≡ 4 = omega arith in
    let h : at.loop-i.i < length es = omega arith in
    sym (some_found es at.loop-i.i part_unit c.part_unit.result c.part_unit.ensures h c.if-part_unit.true) ∙ at.loop-i.invariant.1

pub loop-i-preserved : goal.loop-i-preserved
loop-i-preserved c =
    let at = c in
    let es = at.args.t.entries in
    let four : length es ≡ 4 = omega arith in
    let h : at.loop-i.i < length es = omega arith in
    (omega arith, sym (some_passed es at.loop-i.i part_unit c.part_unit.result c.part_unit.ensures h c.if-part_unit.false) ∙ at.loop-i.invariant.1)

pub returns : goal.returns
returns c =
    let at = c in
    let es = at.args.t.entries in
    let four : length es ≡ 4 = omega arith in
    sym (some_end es at.loop-i.i part_unit (omega arith)) ∙ at.loop-i.invariant.1

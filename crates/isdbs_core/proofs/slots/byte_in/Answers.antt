use Prim.Native.Nat.{◌-◌}
use Rattle.isdbs_core.proofs.Bytes.{has_in}
use Rattle.isdbs_plan.specs.RunLaws.{Whole, each_at}
use Rattle.isdbs_plan.specs.RunsOf.{no_run, RunFits}
use Rattle.isdbs_core.specs.SymbolLaws.{byte_more, byte_end}
use borrow.Author.Rules.{rules}
use lib.ListN.{length, get_or}
use mathlib.Core.Path.{◌≡◌, refl, sym, ◌∙◌}
use native.Mathlib.Omega.{arith}
use Rattle.isdbs_core.proofs.slots.byte_in.Goals as goal

pub loop-i-init : goal.loop-i-init
loop-i-init c = (omega arith, refl)

pub has_slot-requires : goal.has_slot-requires
has_slot-requires c = tt

pub overflow_sub-slot : goal.overflow_sub-slot
overflow_sub-slot c =
    let at = c in
    let runs = at.args.runs in
    let r = get_or runs at.loop-i.i no_run in
    let h = has_in r at.args.slot c.has_slot.result c.has_slot.ensures c.if-has_slot.true in h.0

pub run_byte-requires : goal.run_byte-requires
run_byte-requires c =
    let at = c in
    let runs = at.args.runs in
    let r = get_or runs at.loop-i.i no_run in
    let h = has_in r at.args.slot c.has_slot.result c.has_slot.ensures c.if-has_slot.true in
    let four : length runs ≡ 4 = search rules in
    let fits = each_at RunFits runs no_run at.loop-i.i at.requires.0 (omega arith) in
    let whole = each_at Whole runs no_run at.loop-i.i at.requires.1 (omega arith) in
    (omega arith, fits, whole, at.requires.2)

pub returns-then-has_slot : goal.returns-then-has_slot
returns-then-has_slot c =
    let at = c in
    let runs = at.args.runs in
    let four : length runs ≡ 4 = search rules in
    let more = byte_more runs at.loop-i.i at.args.slot at.args.byte no_run (omega arith) in
    c.run_byte.ensures ∙ sym (rw (sym c.has_slot.ensures ∙ c.if-has_slot.true) at more) ∙ at.loop-i.invariant.1

pub loop-i-preserved : goal.loop-i-preserved
loop-i-preserved c =
    let at = c in
    let runs = at.args.runs in
    let four : length runs ≡ 4 = search rules in
    let more = byte_more runs at.loop-i.i at.args.slot at.args.byte no_run (omega arith) in
    (omega arith, sym (rw (sym c.has_slot.ensures ∙ c.if-has_slot.false) at more) ∙ at.loop-i.invariant.1)

pub returns : goal.returns
returns c =
    let at = c in
    let runs = at.args.runs in
    let four : length runs ≡ 4 = search rules in
    sym (byte_end runs at.loop-i.i at.args.slot at.args.byte (omega arith)) ∙ at.loop-i.invariant.1

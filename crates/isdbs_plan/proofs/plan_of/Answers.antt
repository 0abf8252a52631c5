use Prim.Native.Nat.{◌-◌, ◌<◌}
use Rattle.isdbs_plan.proofs.Built.{built_none, built_skip, built_more, built_end}
use Rattle.isdbs_tables.proofs.EntryLaws.{no_entry, entry_word}
use Rattle.isdbs_combination.specs.contracts.CombinationWord.{enum}
use Rattle.isdbs_combination.specs.Combinations.{assigned_of}
use Rattle.isdbs_plan.specs.RunLaws.{entry_fits}
use Rattle.isdbs_tables.specs.Tables.{entry_combination}
use Rattle.isdbs_combination.specs.declared.CombinationWord.TheVariants.{Assigned, Dummy, Reserved}
use Rattle.isdbs_combination.specs.declared.Combination.{Combination}
use Rattle.isdbs_combination.specs.declared.CombinationWord.{CombinationWord}
use Rattle.std.specs.Prelude.{Some, None}
use denote.Enum.Declared.{tag_of, declared}
use lib.ListN.{length, get_or, length-map}
use mathlib.Core.Logic.{◌⊎◌, inl, inr}
use mathlib.Core.Path.{◌≡◌, refl, ◌∙◌, ap}
use native.Mathlib.Omega.{arith}
use Rattle.isdbs_plan.proofs.plan_of.Goals as goal

-- a word that is not the first variant has no combination
no_assigned : (x : CombinationWord) → ((c : Combination) → x ≡ Assigned c → ⊥) → assigned_of x ≡ None
no_assigned (Assigned c) h = absurd (h c refl)
no_assigned Dummy h = refl
no_assigned (Reserved w) h = refl

pub loop-i-init : goal.loop-i-init
loop-i-init c = (omega arith, omega arith, omega arith, omega arith, omega arith, built_none c.args.t.entries)

pub from_word-word-requires : goal.from_word-word-requires
from_word-word-requires c = tt

pub loop-i-preserved-in_default : goal.loop-i-preserved-in_default
loop-i-preserved-in_default c =
    let at = c in
    let es = at.args.t.entries in
    let four : length es ≡ 4 = omega arith in
    let h : at.loop-i.i < length es = omega arith in
    let e = get_or es at.loop-i.i no_entry in
    let none = entry_word e _ c.from_word-word.ensures ∙ no_assigned c.from_word-word.result c.in_default.not-Assigned in
    (omega arith, omega arith, omega arith, omega arith, omega arith, built_skip es at.loop-i.invariant.5 h none)

pub run_of-r-requires : goal.run_of-r-requires
run_of-r-requires c = (omega arith, omega arith, omega arith)

pub offset_bounds-runs-count : goal.offset_bounds-runs-count
offset_bounds-runs-count c =
    let at = c in
    let start = at in
    let es = start.args.t.entries in
    let e = get_or es at.loop-i.i no_entry in
    let k = c.in-Assigned.c in
    let fits = entry_fits k e.slots in
    let b = at.loop-i.invariant.5 in
    let few = b.few in
    let counted = b.counted in omega arith

pub bounds-runs-count : goal.bounds-runs-count
bounds-runs-count c =
    let at = c in
    let start = at in
    let es = start.args.t.entries in
    let e = get_or es at.loop-i.i no_entry in
    let k = c.in-Assigned.c in
    let fits = entry_fits k e.slots in
    let b = at.loop-i.invariant.5 in
    let few = b.few in
    let counted = b.counted in omega arith

pub overflow_add-count : goal.overflow_add-count
overflow_add-count c =
    let at = c in
    let start = at in
    let es = start.args.t.entries in
    let e = get_or es at.loop-i.i no_entry in
    let k = c.in-Assigned.c in
    let fits = entry_fits k e.slots in
    let b = at.loop-i.invariant.5 in
    let few = b.few in
    let counted = b.counted in omega arith

pub overflow_add-valid_slots : goal.overflow_add-valid_slots
overflow_add-valid_slots c =
    let at = c in
    let start = at in
    let es = start.args.t.entries in
    let e = get_or es at.loop-i.i no_entry in
    let k = c.in-Assigned.c in
    let fits = entry_fits k e.slots in
    let b = at.loop-i.invariant.5 in
    let few = b.few in
    let counted = b.counted in
    rw c.run_of-r.ensures (omega arith)

pub steps_per_slot-requires : goal.steps_per_slot-requires
steps_per_slot-requires c = tt

pub overflow_mul-steps : goal.overflow_mul-steps
overflow_mul-steps c =
    let word = c in
    let at = word in
    let start = at in
    let es = start.args.t.entries in
    let e = get_or es at.loop-i.i no_entry in
    let k = word.in-Assigned.c in
    let fits = entry_fits k e.slots in
    rw (c.steps_per_slot.ensures, c.run_of-r.ensures) (omega (arith, fits.steps))

pub overflow_add-steps : goal.overflow_add-steps
overflow_add-steps c =
    let word = c in
    let at = word in
    let start = at in
    let es = start.args.t.entries in
    let e = get_or es at.loop-i.i no_entry in
    let k = word.in-Assigned.c in
    let fits = entry_fits k e.slots in
    rw (c.steps_per_slot.ensures, c.run_of-r.ensures) (omega (arith, fits.steps))

pub loop-i-preserved : goal.loop-i-preserved
loop-i-preserved c =
    let word = c in
    let from-word = word in
    let at = from-word in
    let start = at in
    let es = start.args.t.entries in
    let e = get_or es at.loop-i.i no_entry in
    let k = word.in-Assigned.c in
    let fits = entry_fits k e.slots in
    let b = at.loop-i.invariant.5 in
    let four : length es ≡ 4 = omega arith in
    let h : at.loop-i.i < length es = omega arith in
    let some : entry_combination e ≡ Some k = entry_word e _ from-word.from_word-word.ensures ∙ ap assigned_of word.in-Assigned.is in
    rw (c.steps_per_slot.ensures, c.run_of-r.ensures) (omega arith, omega arith, omega arith, omega arith, omega (arith, fits.steps), built_more es b h k (omega arith) some)

pub returns : goal.returns
returns c =
    let at = c in
    let t = at.args.t in
    let four : length t.entries ≡ 4 = omega arith in
    let end = built_end t at.loop-i.invariant.5 (omega arith) in
    (end.0, omega (arith, end.1))

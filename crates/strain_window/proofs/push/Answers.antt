-- `push` meets its contract.
use mathlib.Core.Path.{refl, sym, ◌∙◌}
use Prim.Native.Nat.{◌<◌, ◌≤◌}
use borrow.Author.Tests.{lt-ltb}
use lib.ListN.{length}
use Rattle.refusal.specs.declared.Refusal.TheVariants as row
use Rattle.strain_window.proofs.After.{allowed}
use Rattle.strain_window.proofs.Outcome.{turned_back, carried_out}
use Rattle.strain_window.proofs.push.Goals as goal

pub returns-then-is_outside : goal.returns-then-is_outside
returns-then-is_outside c =
    let a = c.args in
    turned_back row.Window a.state a.clear a.sum a.kept.now
    (rw (sym c.is_outside.ensures ∙ c.if-is_outside.true) refl)

pub returns-then-kept-state : goal.returns-then-kept-state
returns-then-kept-state c =
    let past = c in
    let a = past.args in
    let inside = sym past.is_outside.ensures ∙ past.if-is_outside.false in
    let short : length a.kept.now < a.state.window = past.if-kept-state.true in
    turned_back row.Space a.state a.clear a.sum a.kept.now
    (rw (inside, lt-ltb (length a.kept.now) a.state.window short) refl)

pub keep_sum-requires : goal.keep_sum-requires
keep_sum-requires c =
    let past = c in
    let a = past.args in
    let inside = sym past.is_outside.ensures ∙ past.if-is_outside.false in
    let room : a.state.window ≤ length a.kept.now = past.if-kept-state.false in
    allowed a.state a.sum a.kept.now inside room

pub returns : goal.returns
returns c =
    let done = c.keep_sum.ensures in
    let past = c in
    let a = past.args in
    let inside = sym past.is_outside.ensures ∙ past.if-is_outside.false in
    let room : a.state.window ≤ length a.kept.now = past.if-kept-state.false in
    carried_out inside room done

-- `path_reading::finished` meets its contract.
use mathlib.Core.Path.{◌≡◌, ap, ◌∙◌}
use Prim.Native.Nat.{◌-◌}
use native.Mathlib.Omega.{arith}
use lib.ListN.{length, length-drop}
use Rattle.std.specs.Prelude.{Ok, Err}
use Rattle.std.proofs.lemmas.Result.{err_from_is_err_and}
use borrow.Rule.Slice.PartMut.{mid_of}
use Rattle.path_reading.proofs.Parts.{mid_rest, put_rest}
use Rattle.path_reading.proofs.Compose.{flushed, flushed_few}
use Rattle.path_reading.proofs.finished.Goals as goal

pub overflow_add-result : goal.overflow_add-result
overflow_add-result c =
    let a = c.args in
    let g = rw c.in_ok-rest.was at c.flush.ensures in
    let part = mid_of a.pushed.count (length a.out.now - a.pushed.count) a.out.now in
    let k = flushed_few a.pushed.dec c.in_ok-rest.rest a.decisions.now c.flush.new.decisions part c.flush.new.out g.answers g.leaves in
    let l : length part ≡ length a.out.now - a.pushed.count = ap length (mid_rest a.pushed.count a.out.now) ∙ length-drop a.pushed.count a.out.now in
    omega arith

pub returns-in_err-rest : goal.returns-in_err-rest
returns-in_err-rest c =
    let a = c.args in
    let p = err_from_is_err_and c.from_residual.result c.from_residual.ensures.1 in
    let g = rw c.in_err-rest.was at c.flush.ensures in
    rw (p.1, p.2) (flushed a.pushed (Err _) a.decisions.now c.flush.new.decisions a.out.now (mid_of a.pushed.count (length a.out.now - a.pushed.count) a.out.now) c.flush.new.out _ (omega arith) (mid_rest a.pushed.count a.out.now) g.answers g.leaves (put_rest a.pushed.count a.out.now c.flush.new.out (omega arith)))

pub returns : goal.returns
returns c =
    let a = c.args in
    let g = rw c.in_ok-rest.was at c.flush.ensures in
    flushed a.pushed (Ok c.in_ok-rest.rest) a.decisions.now c.flush.new.decisions a.out.now (mid_of a.pushed.count (length a.out.now - a.pushed.count) a.out.now) c.flush.new.out _ (omega arith) (mid_rest a.pushed.count a.out.now) g.answers g.leaves (put_rest a.pushed.count a.out.now c.flush.new.out (omega arith))

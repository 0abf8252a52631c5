-- `known_end::flush_behind` meets its contract.
use Prim.Native.Nat.{◌-◌}
use native.Mathlib.Omega.{arith}
use borrow.Rule.Slice.PartMut.{mid_of}
use lib.ListN.{length}
use Rattle.std.specs.Prelude.{Err}
use Rattle.refusal.specs.Rows.{Accepted}
use Rattle.std.proofs.lemmas.Result.{err_from_is_err_and}
use Rattle.known_end.proofs.Compose.{length_tail, few_bits, answers_behind, behind}
use Rattle.known_end.proofs.flush_behind.Goals as goal

pub overflow_add-result : goal.overflow_add-result
overflow_add-result c =
    let a = c.args in
    let g = rw c.in_ok-rest.was at c.flush_at.ensures in
    let part = mid_of a.pushed.count (length a.out.now - a.pushed.count) a.out.now in
    let k = few_bits a.end a.pushed.dec c.in_ok-rest.rest a.decisions.now c.flush_at.new.decisions part c.flush_at.new.out g.answers g.leaves in
    let l = length_tail a.pushed.count a.out.now (omega arith) in
    omega arith

pub returns-in_err-rest : goal.returns-in_err-rest
returns-in_err-rest c =
    let a = c.args in
    let p = err_from_is_err_and c.from_residual.result c.from_residual.ensures.1 in
    let g = rw c.in_err-rest.was at c.flush_at.ensures in
    record { answers = rw (p.1, p.2) (answers_behind a.pushed (Err _) a.decisions.now a.out.now (omega arith) g.answers); leaves = rw p.1 tt }

pub returns : goal.returns
returns c =
    let a = c.args in
    let g = rw c.in_ok-rest.was at c.flush_at.ensures in
    record {
      answers = answers_behind a.pushed Accepted a.decisions.now a.out.now (omega arith) g.answers;
      leaves = behind a.end a.pushed c.in_ok-rest.rest a.decisions.now c.flush_at.new.decisions a.out.now c.flush_at.new.out (omega arith) g.leaves;
    }

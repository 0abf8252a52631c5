-- `short` meets its contract.
use mathlib.Core.Path.{refl}
use native.Mathlib.Omega.{arith}
use Rattle.best_frame.specs.ReadLaws.{counted}
use Rattle.best_frame.proofs.short.Goals as goal

pub overflow_mul-result : goal.overflow_mul-result
overflow_mul-result c = let q = counted c.args.p c.requires in
    let q1 = q.steps_are in
    let q2 = q.valid_are in
    let q3 = q.bytes_are in
    let q4 = q.steps_few in
    let q5 = q.valid_few in
    record { fits = omega arith }

pub overflow_mul-result-2 : goal.overflow_mul-result-2
overflow_mul-result-2 c = let q = counted c.args.p c.requires in
    let q1 = q.steps_are in
    let q2 = q.valid_are in
    let q3 = q.bytes_are in
    let q4 = q.steps_few in
    let q5 = q.valid_few in
    record { fits = omega arith }

pub returns : goal.returns
returns c =
    let start = c in
    let q = counted start.args.p start.requires in
    let q1 = q.steps_are in
    let q2 = q.valid_are in
    let q3 = q.bytes_are in
    let q4 = q.steps_few in
    let q5 = q.valid_few in
    rw (q1, q2, q3) refl

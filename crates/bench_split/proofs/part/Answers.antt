-- `part` meets its contract.
use Rattle.std.proofs.Common.{◌≡◌, ◌-◌, ◌≤◌, length, take, drop, arith, length-drop, length-take}
use Rattle.std.proofs.lemmas.List.{take_all}
use Rattle.bench_split.specs.Parts.{after, until}
use Rattle.bench_split.proofs.Laws.{until_front, until_fits}
use Rattle.bench_split.proofs.part.Goals as goal

pub slice_bounds-result-end : goal.slice_bounds-result-end
slice_bounds-result-end c =
    let f = until_fits c.args.stop (take (length c.args.s.now - c.start_of.result) (drop c.start_of.result c.args.s.now)) in
    let e = c.bytes_before.ensures in
    rw length-take (omega arith)

pub returns : goal.returns
returns c =
    let a = c.args in
    let n : length (drop c.start_of.result a.s.now) ≤ length a.s.now - c.start_of.result = rw length-drop (omega arith) in
    let e : take (length a.s.now - c.start_of.result) (drop c.start_of.result a.s.now) ≡ after a.stop a.i a.s.now = rw (take_all _ _ n, c.start_of.ensures.1) in
    rw (c.bytes_before.ensures, e, until_front)

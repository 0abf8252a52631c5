-- `search_load` meets its contract.
use mathlib.Core.Path.{ap}
use native.Mathlib.Omega.{arith}
use borrow.Author.Rules.{rules}
use Rattle.isdbs_plan.specs.declared.Plan.{Plan}
use Rattle.wanted_read.specs.Only.{read_off_full}
use Rattle.wanted_load.proofs.Search.{searched}
use Rattle.wanted_load.proofs.Loads.{read_is}
use Rattle.wanted_load.proofs.search_load.Goals as goal

pub slice_bounds-keep_load-end : goal.slice_bounds-keep_load-end
slice_bounds-keep_load-end c =
    let a = c in
    let n = ap (λ (z : Plan). z.bytes) a.requires.0.is in
    search rules

pub keep_load-requires : goal.keep_load-requires
keep_load-requires c =
    let read-load = c in
    let start-state = read-load in
    let a = start-state in
    let l = read-load.read_load in
    let n = ap (λ (z : Plan). z.bytes) a.requires.0.is in
    let e = read_is a.args.f.plan.table a.args.f.mapping a.args.f.first a.args.re.now a.args.im.now _ a.args.f.plan.bytes _ _ start-state.start_state-start.ensures.0 n l.ensures in
    let f = (read_off_full a.args.f.plan.table a.args.f.mapping a.args.f.first a.args.re.now a.args.im.now).size in
    (a.requires.0, a.requires.1, a.requires.2, a.requires.4, a.requires.5, rw e (omega (arith, f, a.requires.6)))

pub returns : goal.returns
returns c =
    let keep_Load = c in
    let read-load = keep_Load in
    let start-state = read-load in
    let a = start-state in
    let l = read-load.read_load in
    let n = ap (λ (z : Plan). z.bytes) a.requires.0.is in
    let e = read_is a.args.f.plan.table a.args.f.mapping a.args.f.first a.args.re.now a.args.im.now _ a.args.f.plan.bytes _ _ start-state.start_state-start.ensures.0 n l.ensures in
    let k = rw e at keep_Load.keep_load.ensures in
    searched a.args.f.plan.table a.requires.0.accepted a.args.f.mapping a.args.f.first a.args.re.now a.args.im.now keep_Load.keep_load.result k.0 a.args.bytes.now _ k.1

use mathlib.Core.List.{[]}
use Rattle.trellis.specs.Lists.{upto}
use Rattle.trellis.specs.Run.{quadruple}
use Rattle.best_grid.specs.Grid.{cost_at}
use Rattle.best_grid.specs.Costs.{word_at}
use Rattle.best_grid.specs.Leading.{seq}
use Rattle.best_content.specs.Slots.{piece}
use Prim.Native.Nat.{◌-◌, ◌*◌}
use native.Mathlib.Omega.{arith}
use lib.ListN.{length-drop}
use Rattle.viterbi_release.specs.PartLaws.{tail_whole, written_tail}
use Rattle.best_content.proofs.Ongoing.{part_length}
use Rattle.best_content.proofs.pass_slot.Goals as goal

pub pass-requires : goal.pass-requires
pass-requires c =
    let start = c in
    let a = start.args in
    let p = start.requires in
    let e = part_length a.metrics.now a.a a.b p.0 p.1 in
    let t = tail_whole a.a a.decisions.now [] [] (let q = p.3 in let w = p.0 in omega arith) in
    let l = length-drop a.a a.decisions.now in
    (rw e (rw t (rw l (let q = p.3 in omega arith))), λ k. rw e (p.4 k))

pub returns : goal.returns
returns c =
    let keep-table = c in
    let start = keep-table in
    let a = start.args in
    let p = start.requires in
    let e = part_length a.metrics.now a.a a.b p.0 p.1 in
    let w = rw e at c.pass.ensures in record {
      table = w.table;
      words = written_tail a.a a.decisions.now c.pass.new.decisions (upto (word_at a.d.now (cost_at (quadruple (piece (4 * a.a) (4 * a.b) a.metrics.now)))) (a.b - a.a)) (let q = p.3 in let v = p.0 in omega arith) w.words;
      kept = written_tail a.at a.tables.now keep-table.keep_table.new.tables (upto (seq a.d.now) 64) (let q = p.2 in omega arith) keep-table.keep_table.ensures;
    }

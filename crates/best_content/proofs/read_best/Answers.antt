use native.Mathlib.Omega.{arith}
use Prim.Native.Nat.{◌/◌}
use lib.ListN.{length}
use Rattle.trellis.specs.Run.{quadruple}
use Rattle.best_content.proofs.Slotwise.{start_room}
use Rattle.best_content.proofs.Whole.{whole_words, whole_end, whole_bits, whole_start_lem, whole_cost, whole_saved}
use Rattle.best_content.proofs.read_best.Goals as goal

pub pass_slots-requires : goal.pass_slots-requires
pass_slots-requires c =
    let start-table = c in
    let start = start-table in
    let p = start.requires in
    let a = start.args in
    let few = p.1 in
    (p.0, p.2, p.3, start_room a.start (length a.metrics.now / 4) start-table.start_table-d.result (omega arith) start-table.start_table-d.ensures)

pub returns : goal.returns
returns c =
    let trace = c in
    let cheapest-state = trace in
    let pass-slots = cheapest-state in
    let start-table = pass-slots in
    let start = start-table in
    let a = start.args in
    let p = start.requires in
    let st = start-table.start_table-d in
    let ps = pass-slots.pass_slots in
    let ch = cheapest-state.cheapest_state-end in
    let tr = trace.trace in
    let n = length a.metrics.now / 4 in
    let q = quadruple a.metrics.now in
    let w = whole_words a.start q n st.result ps.new.decisions a.decisions.now st.ensures ps.ensures.words in
    let e = whole_end a.start q n st.result ps.new.d ch.result st.ensures ps.ensures.table ch.ensures.1 in record {
      reads = whole_bits a.start q n ps.new.decisions _ a.bits.now ch.result w e p.4 tr.ensures;
      starts = (c.traced_start-s.ensures.0, whole_start_lem a.start q n ps.new.decisions ch.result c.traced_start-s.result w e c.traced_start-s.ensures.1);
      costs = whole_cost a.start q n st.result ps.new.d ch.result st.ensures ps.ensures.table e;
      kept = (whole_saved a.start q n st.result a.marks.now ps.new.tables a.slots st.ensures ps.ensures.kept.0, ps.ensures.kept.1);
    }

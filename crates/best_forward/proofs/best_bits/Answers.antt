use mathlib.Core.Path.{ap, ◌∙◌}
use mathlib.Core.List.{List}
use Prim.Native.Nat.{ℕ, ◌/◌}
use lib.ListN.{length}
use Rattle.trellis.specs.Lists.{laid}
use Rattle.trellis.specs.Run.{quadruple}
use Rattle.best_grid.proofs.BestLaws.{best_reading}
use Rattle.best_forward.proofs.Passes.{start_room, traced_best}
use Rattle.best_forward.proofs.best_bits.Goals as goal

pub pass-requires : goal.pass-requires
pass-requires c = let start = c in
    let a = start.args in
    (start.requires.1, start_room a.start (length a.metrics.now / 4) c.start_table-d.result start.requires.0 c.start_table-d.ensures)

pub returns : goal.returns
returns c = let tr = c in
    let ch = tr in
    let pa = ch in
    let st = pa in
    let start = st in
    let a = start.args in
    let n = length a.metrics.now / 4 in
    let q = quadruple a.metrics.now in record {
      reads = tr.trace.ensures
          ∙ ap (λ (x : List ℕ). laid x a.bits.now)
          (traced_best a.start q n ch.cheapest_state-end.result st.start_table-d.result _ _ a.decisions.now st.start_table-d.ensures pa.pass.ensures.table pa.pass.ensures.words ch.cheapest_state-end.ensures.1);
      greatest = best_reading a.start q n start.requires.0;
    }

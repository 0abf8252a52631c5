use native.Mathlib.Omega.{arith}
use Prim.Native.Nat.{◌/◌}
use lib.ListN.{length}
use Rattle.trellis.specs.Run.{quadruple}
use Rattle.best_grid.specs.Sides.{chosen}
use Rattle.best_content.proofs.Slotwise.{lowered}
use Rattle.best_content.proofs.Whole.{bits_long, bits_small, uncoded_whole, asked, whole_found}
use Rattle.best_content.proofs.best_content.Goals as goal

pub write_uncoded-requires : goal.write_uncoded-requires
write_uncoded-requires c =
    let read-best = c in
    let start = read-best in
    let a = start.args in
    let l = start.requires in
    let rb = read-best.read_best-best in
    let n = length a.metrics.now / 4 in
    let q = quadruple a.metrics.now in
    let lb = bits_long a.start q n rb.new.bits rb.ensures.reads in
    let lu = l.beside in
    (rb.ensures.starts.0, l.sided, omega arith, omega arith, λ k h. bits_small a.start q n l.few rb.new.bits rb.ensures.reads k)

pub lead_slots-requires : goal.lead_slots-requires
lead_slots-requires c =
    let write-uncoded = c in
    let read-best = write-uncoded in
    let start = read-best in
    let a = start.args in
    let l = start.requires in
    let rb = read-best.read_best-best in
    let wu = write-uncoded.write_uncoded in
    let n = length a.metrics.now / 4 in
    let bits = rb.new.bits in
    let kept = rb.ensures.kept in
    let lt = kept.1 in
    let lk = l.kept in
    let zs = uncoded_whole (chosen a.sides.now bits rb.result.start) n _ a.uncoded.now l.beside wu.ensures in (
      l.marked,
      l.few,
      asked a.start a.metrics.now a.sides.now n bits _ rb.result.start l.few (omega arith) l.sided rb.ensures.reads zs,
      omega arith,
      lowered a.start a.metrics.now a.marks.now (length a.leads.now) n rb.new.tables l.few l.marked kept.0,
    )

pub returns : goal.returns
returns c =
    let write-uncoded = c in
    let read-best = write-uncoded in
    let start = read-best in
    let a = start.args in
    let l = start.requires in
    let rb = read-best.read_best-best in
    let wu = write-uncoded.write_uncoded in
    let ls = c.lead_slots in
    let n = length a.metrics.now / 4 in
    let bits = rb.new.bits in
    let kept = rb.ensures.kept in
    let zs = uncoded_whole (chosen a.sides.now bits rb.result.start) n _ a.uncoded.now l.beside wu.ensures in
    whole_found a.start a.metrics.now a.sides.now a.marks.now (length a.leads.now) n l.few l.upright l.marked rb.new.tables bits _ _ rb.result.start rb.result.cost
    kept.0 rb.ensures.reads rb.ensures.starts.1 zs rb.ensures.costs ls.ensures

-- `mend::mend_near` meets its contract.
use mathlib.Core.Path.{sym}
use Prim.Native.Nat.{◌/◌, ◌%◌}
use native.Mathlib.Omega.{arith}
use lib.ListN.{length}
use Rattle.mend_distance.specs.Distances.{word_at}
use Rattle.mend.proofs.Outcome.{front_is, front_long, front_near, cleared}
use Rattle.mend.proofs.mend_near.Goals as goal

pub slice_bounds-list_changes-end-2 : goal.slice_bounds-list_changes-end-2
slice_bounds-list_changes-end-2 c =
    let write-stretch = c in
    let start = write-stretch in
    let a = start.args in
    sym (front_long (a.start % 64) (a.end % 64) a.bits.now a.out.now _ write-stretch.write_stretch.ensures.writes)

pub list_changes-requires : goal.list_changes-requires
list_changes-requires c =
    let write-stretch = c in
    let start = write-stretch in
    let a = start.args in
    let w = write-stretch.write_stretch.ensures.writes in
    (front_long (a.start % 64) (a.end % 64) a.bits.now a.out.now _ w, start.requires.0.few, front_near (a.start % 64) (a.end % 64) a.bits.now a.out.now _ w, start.requires.0.list_room)

pub returns : goal.returns
returns c =
    let clear = c in
    let write-stretch = clear in
    let start = write-stretch in
    let a = start.args in
    let bits = a.bits.now in
    let s = a.start % 64 in
    let wrote = write-stretch.write_stretch.ensures in
    let listed = c.list_changes.ensures in
    let w = wrote.writes in
    let front = front_is s (a.end % 64) bits a.out.now _ w in
    let few = start.requires.0.few in
    record {
      inputs = w.inputs;
      within = w.within;
      out_is = w.out_is;
      count_is = rw front at listed.0;
      list_is = rw front at listed.1;
      decisions_is = cleared (word_at s bits) (length bits / 2) a.decisions.now _ _ (omega arith) wrote.words clear.clear.ensures;
    }

-- A slot counted by its marks.
use Rattle.std.specs.Prelude.{◌≡◌, List, ℕ, ◌*◌, ◌/◌, ◌%◌, ◌<◌, get_or}
use Rattle.trellis.specs.Code.{state_at}
use Rattle.trellis.specs.Isdb
use Rattle.strain_marks.specs.Counts.{summed}
use Rattle.strain_marks.specs.Marks.{marked}
use Rattle.decode_strain.specs.declared.Slot.{Slot}

-- a list that has 2 X + Y of the input u at the state s at 64 u + s
pub record Labels (l : List ℕ) : Type 0 where
  pub are : (k : ℕ) → k < 2 * Isdb.states → get_or l k 0 ≡ Isdb.labels (k / Isdb.states) (k % Isdb.states)

-- n steps are counted by their marks ms: how many are strained where the decoded bits us are encoded again from the state s, and the state after them
pub record Counted (ms us : List ℕ) (s n : ℕ) (r : Slot) : Type 0 where
  pub small : r.state < Isdb.states
  pub count_is : r.count ≡ summed (marked ms s us) n
  pub state_is : r.state ≡ state_at Isdb.half s us n

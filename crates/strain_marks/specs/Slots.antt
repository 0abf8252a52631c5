-- The valid slots of a frame, "numbered from 0 through all runs": which segment has slot j, and which of the frame's steps are its own.
use Rattle.std.specs.Prelude.{ℕ, ◌+◌, ◌*◌, ◌/◌}
use Rattle.isdbs_tables.specs.declared.Table.{Table}
use Rattle.isdbs_combination.specs.Combinations.{slot_steps, slot_bits}
use Rattle.isdbs_points.specs.Layout.{Segment, segments, among}
use Rattle.strain_marks.specs.Counts.{summed}

-- the first and the number of a segment's valid slots: "A valid slot is 1,624 bits"
abbrev pub slot_of : Segment → ℕ
slot_of g = g.bit / slot_bits

abbrev pub slots_of : Segment → ℕ
slots_of g = g.bits / slot_bits

-- what f says of valid slot j: f of the segment that has it, and of its number there
abbrev pub at_slot : {A : Type 0} (none : A) (f : Segment → ℕ → A) (t : Table) → ℕ → A
at_slot none f t = among slot_of slots_of none f (segments t)

-- the sum of f over the steps of slot v of a segment: "812 steps to a TC8PSK slot and 1,624 to another"
abbrev pub over_slot : (ℕ → ℕ) → Segment → ℕ → ℕ
over_slot f g v = summed (λ i. f (g.step + (slot_steps g.combination * v + i))) (slot_steps g.combination)

-- the sum of f over the steps of valid slot j of the frame
unfoldable pub by_slot : Table → (ℕ → ℕ) → ℕ → ℕ
by_slot t f = at_slot 0 (over_slot f) t

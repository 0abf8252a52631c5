-- `short_parts` meets its contract.
use mathlib.Core.Path.{sym, ◌∙◌}
use Rattle.full_frame_trips.proofs.short_parts.Goals as goal

pub returns-then-short_inputs : goal.returns-then-short_inputs
returns-then-short_inputs c = rw (sym c.short_inputs.ensures ∙ c.if-short_inputs.true)

pub returns : goal.returns
returns c = rw (sym c.short_inputs.ensures ∙ c.if-short_inputs.false) c.short_inputs-2.ensures

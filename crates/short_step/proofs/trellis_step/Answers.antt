-- `short_step::trellis_step` meets its contract.
use mathlib.Core.Path.{◌∙◌, ap}
use mathlib.Core.List.{List}
use lib.Ieee.{Float}
use Rattle.trellis.specs.Run.{settled}
use Rattle.trellis.specs.Isdb.{rule}
use Rattle.viterbi_core.specs.Calls.{step_of}
use Rattle.short_code.specs.Codes.{labels}
use Rattle.short_step.proofs.trellis_step.Goals as goal

pub returns : goal.returns
returns c =
    let add-compare-select = c in
    let start = add-compare-select in
    let a = start.args in
    let selected = add-compare-select.add_compare_select-w.ensures in
    (c.settle.ensures (labels a.code) ∙ ap (λ (y : List Float). settled a.h (labels a.code) rule a.i (step_of a.x) y) selected.0, selected.1)

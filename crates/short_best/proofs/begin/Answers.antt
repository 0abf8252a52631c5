-- `short_best::begin` meets its contract.
use mathlib.Core.Path.{sym, ◌∙◌, ap}
use lib.ListN.{length}
use Rattle.path_greatest.specs.Fresh.{start_values}
use Rattle.short_best.proofs.begin.Goals as goal

pub returns-in-Given : goal.returns-in-Given
returns-in-Given c =
    let at-start = c in
    let start = at-start in
    c.start_at.ensures ∙ sym (ap (start_values (length start.args.pm.now)) at-start.in-Given.is)

pub returns-in-Unknown : goal.returns-in-Unknown
returns-in-Unknown c = c.start_unknown.ensures ∙ sym (ap (start_values (length c.args.pm.now)) c.in-Unknown.is)

-- `path_reading::started` meets its contract: a traceback of 128 is never refused.
use mathlib.Core.Path.{sym, ap, ◌∙◌}
use Rattle.std.specs.Prelude.{is_ok}
use Rattle.trellis.specs.Isdb
use Rattle.path_greatest.specs.Fresh.{start_values}
use Rattle.range_calls.specs.Handed.{one_value}
use Rattle.path_reading.proofs.Compose.{fresh_is}
use Rattle.path_reading.proofs.started.Goals as goal

pub unwrap-requires : goal.unwrap-requires
unwrap-requires c =
    let g = c.with_state.ensures in
    ap is_ok (fresh_is c.args.start _ c.with_state.result (ap (start_values Isdb.states) c.in-Given.is) g.answers g.made)

pub unwrap-requires-in-Unknown : goal.unwrap-requires-in-Unknown
unwrap-requires-in-Unknown c =
    let g = c.new_unknown_state.ensures in
    ap is_ok (fresh_is c.args.start _ c.new_unknown_state.result (ap (start_values Isdb.states) c.in-Unknown.is) g.answers g.made)

pub returns-in-Given : goal.returns-in-Given
returns-in-Given c =
    let g = c.with_state.ensures in
    one_value (sym c.unwrap.ensures ∙ fresh_is c.args.start _ c.with_state.result (ap (start_values Isdb.states) c.in-Given.is) g.answers g.made)

pub returns-in-Unknown : goal.returns-in-Unknown
returns-in-Unknown c =
    let g = c.new_unknown_state.ensures in
    one_value (sym c.unwrap-in-Unknown.ensures ∙ fresh_is c.args.start _ c.new_unknown_state.result (ap (start_values Isdb.states) c.in-Unknown.is) g.answers g.made)

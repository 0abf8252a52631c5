-- `range_calls::started` meets its contract: a traceback of 128 is never refused.
use mathlib.Core.Path.{◌≡◌, refl, sym, ◌∙◌}
use mathlib.Core.Bool.{true}
use Rattle.std.specs.Prelude.{Result, Ok, Err, is_ok}
use Rattle.refusal.specs.declared.Refusal.{Refusal}
use Rattle.refusal.specs.Rows.{answer_of, Accepted}
use Rattle.refusal.proofs.RowLaws.{err_refuses}
use Rattle.isdb_fec.specs.declared.conv.ViterbiDecoder.{ViterbiDecoder}
use Rattle.range_calls.specs.Handed.{fresh_is, one_value}
use Rattle.range_calls.proofs.started.Goals as goal

made : (r : Result ViterbiDecoder Refusal) → answer_of r ≡ Accepted → is_ok r ≡ true
made (Ok v) e = refl
made (Err row) e = absurd (err_refuses {row = row} e)

pub unwrap-requires : goal.unwrap-requires
unwrap-requires c = made c.with_state.result c.with_state.ensures.answers

pub returns : goal.returns
returns c = one_value (sym c.unwrap.ensures ∙ fresh_is c.with_state.result c.args.state c.with_state.ensures.answers c.with_state.ensures.made)

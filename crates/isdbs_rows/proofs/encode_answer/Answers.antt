-- `encode_answer` meets its contract.
use Rattle.isdbs_frame.specs.Frame.{main_symbols}
use borrow.Author.Tests.{lt-ltb, le-ltb}
use mathlib.Core.Path.{sym, ◌∙◌}
use Rattle.std.proofs.lemmas.Result.{err_from_is_err_and}
use Rattle.refusal.proofs.RowLaws.{err_refuses}
use Rattle.isdbs_rows.proofs.EncodeAnswers.{table_refuses, table_passes}
use Rattle.isdbs_rows.proofs.encode_answer.Goals as goal

pub returns-in_err-table_answer : goal.returns-in_err-table_answer
returns-in_err-table_answer c =
    let a = c.args in
    let p = err_from_is_err_and c.from_residual.result c.from_residual.ensures.1 in
    rw (p.1, p.2) (table_refuses a.t a.state a.a a.b _ (sym c.in_err-table_answer.was ∙ c.table_answer.ensures) err_refuses)

pub returns-then-state-gt63 : goal.returns-then-state-gt63
returns-then-state-gt63 c = table_passes c.args.t c.args.state c.args.a c.args.b c.table_answer.result c.table_answer.ensures c.in_ok-table_answer.was (rw (lt-ltb 63 c.args.state c.if-state-gt63.true))

pub returns-then-a-lt-MAIN_SYMBOLS : goal.returns-then-a-lt-MAIN_SYMBOLS
returns-then-a-lt-MAIN_SYMBOLS c = table_passes c.args.t c.args.state c.args.a c.args.b c.table_answer.result c.table_answer.ensures c.in_ok-table_answer.was (rw (le-ltb 63 c.args.state c.if-state-gt63.false, lt-ltb c.args.a main_symbols c.if-a-lt-MAIN_SYMBOLS.true))

pub returns-then-b-lt-MAIN_SYMBOLS : goal.returns-then-b-lt-MAIN_SYMBOLS
returns-then-b-lt-MAIN_SYMBOLS c = table_passes c.args.t c.args.state c.args.a c.args.b c.table_answer.result c.table_answer.ensures c.in_ok-table_answer.was (rw (le-ltb 63 c.args.state c.if-state-gt63.false, le-ltb c.args.a main_symbols c.if-a-lt-MAIN_SYMBOLS.false, lt-ltb c.args.b main_symbols c.if-b-lt-MAIN_SYMBOLS.true))

pub returns : goal.returns
returns c = table_passes c.args.t c.args.state c.args.a c.args.b c.table_answer.result c.table_answer.ensures c.in_ok-table_answer.was (rw (le-ltb 63 c.args.state c.if-state-gt63.false, le-ltb c.args.a main_symbols c.if-a-lt-MAIN_SYMBOLS.false, le-ltb c.args.b main_symbols c.if-b-lt-MAIN_SYMBOLS.false))

-- `isdbs_bit_symbol` meets its contract.
use mathlib.Core.Path.{sym, ◌∙◌}
use Rattle.isdbs_combination.specs.Combinations.{combination_of}
use Rattle.c_table.proofs.Answers.{bit_found, bit_lost}
use Rattle.c_answers.specs.AnswerLaws.{kept}
use Rattle.c_table.proofs.isdbs_bit_symbol.Goals as goal

pub returns-in-Ok : goal.returns-in-Ok
returns-in-Ok c =
    let q = bit_found c.args.word c.args.bit (combination_of c.args.word) c.in-Some.c c.bit_symbol.result
    (sym c.from_word.ensures ∙ c.in-Some.is) c.bit_symbol.ensures c.in-Ok.symbol c.in-Ok.is in
    record { answers = q.0; leaves = q.1 }

pub returns-in-Err : goal.returns-in-Err
returns-in-Err c =
    let q = bit_lost c.args.word c.args.bit (combination_of c.args.word) c.in-Some.c c.bit_symbol.result
    (sym c.from_word.ensures ∙ c.in-Some.is) c.bit_symbol.ensures c.number.result c.in-Err.row c.in-Err.is c.number.ensures in
    record { answers = q.0; leaves = kept c.number.result _ _ q.1 }

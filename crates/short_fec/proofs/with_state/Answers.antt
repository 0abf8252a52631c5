-- `short_fec::with_state` meets its contract.
use mathlib.Core.Path.{sym, ◌∙◌}
use Rattle.short_code.specs.Codes.{good_code}
use Rattle.refusal.proofs.RowLaws.{passed}
use Rattle.refusal.specs.Rows as answer
use borrow.Author.Tests.{not-false}
use Rattle.short_fec.specs.Rows.{fresh_rows}
use Rattle.isdb_fec.specs.Calls.{Fresh}
use Rattle.short_fec.specs.Calls.{start_values}
use Rattle.short_fec.proofs.Whole.{onward}
use Rattle.short_fec.proofs.with_state.Goals as goal

pub returns : goal.returns
returns c =
    let a = c.args in
    let f = c.fresh.ensures in
    record {
      answers = f.answers;
      made =
          onward c.fresh.result (λ v. Fresh a.traceback c.start.result v) (λ v. Fresh a.traceback (start_values a.code a.state) v)
          (λ e v k.
          let good = not-false (good_code a.code) (passed (fresh_rows a.code a.traceback) tt (sym f.answers ∙ e) answer.Code) in
          record { values = k.values ∙ c.start.ensures good; held_is = k.held_is; traceback_is = k.traceback_is })
          f.made;
    }

-- `short_fec::new_unknown_state` meets its contract.
use mathlib.Core.Path.{sym, ◌∙◌}
use native.Mathlib.Omega.{arith}
use Prim.Native.Nat.{◌-◌, ◌^◌, ◌≤◌}
use Rattle.short_code.specs.Codes.{states_of, good_code}
use Rattle.short_code.specs.CodeLaws.{good_length_lem}
use Rattle.short_fec.proofs.Whole.{unknown, onward}
use Rattle.refusal.proofs.RowLaws.{passed}
use Rattle.refusal.specs.Rows as answer
use borrow.Author.Tests.{not-false}
use Rattle.short_fec.specs.Rows.{fresh_rows}
use lib.Pow.{pow_mono}
use lib.ListN.{replicate}
use lib.Ieee.{binary32, of_bits}
use Rattle.isdb_fec.specs.Calls.{Fresh}
use Rattle.short_fec.specs.Calls.{unknown_values}
use Rattle.short_fec.proofs.new_unknown_state.Goals as goal

pub returns : goal.returns
returns c =
    let a = c.args in
    let f = c.fresh.ensures in record {
      answers = f.answers;
      made =
          onward c.fresh.result (λ v. Fresh a.traceback (replicate 64 (of_bits binary32 0)) v) (λ v. Fresh a.traceback (unknown_values a.code) v)
          (λ e v k.
          let good = good_length_lem a.code (not-false (good_code a.code) (passed (fresh_rows a.code a.traceback) tt (sym f.answers ∙ e) answer.Code)) in
          let few : states_of a.code ≤ 2 ^ 6 = pow_mono {i = a.code.constraint - 1} {j = 6} (omega arith) in
          record { values = k.values ∙ unknown (states_of a.code) few; held_is = k.held_is; traceback_is = k.traceback_is })
          f.made;
    }

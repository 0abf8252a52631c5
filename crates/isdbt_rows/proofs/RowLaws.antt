-- What an accepted call may rely on.
use Rattle.std.specs.Prelude.{◌≡◌, false, List, ℕ, ◌+◌, ◌*◌, ◌/◌, ◌%◌, ◌<◌, ◌≤◌, eqb, ltb, length, Float}
use Rattle.std.proofs.Common.{sym, arith, ltb-false, eqb-true}
use Rattle.std.proofs.lemmas.Bool.{not-false}
use Rattle.refusal.specs.Rows.{first_row, Accepted, Traceback, State, Length, Space}
use Rattle.refusal.proofs.RowLaws.{passed, neither}
use Rattle.isdbt_table.specs.declared.CodeRate.{CodeRate}
use Rattle.isdbt_table.specs.Table.{period, sent}
use Rattle.isdbt_rows.specs.Rows.{broken, encode_rows, depuncture_rows, decode_rows}
use Rattle.trellis.specs.Run.{block, traceback_limit, depth}

whole : (per count : ℕ) → broken per count ≡ false → count % per ≡ 0
whole per count e = eqb-true (count % per) 0 (not-false (eqb (count % per) 0) e)

pub encode_enough : (rate : CodeRate) (s count out : ℕ) → Accepted ≡ first_row (encode_rows rate s count out)
    → (s < 64) × (count % period rate ≡ 0) × (count / period rate * sent rate ≤ out)
encode_enough rate s count out e =
    let p = passed (encode_rows rate s count out) tt (sym e) in
    let g : s ≤ 63 = ltb-false 63 s (p State) in
    (omega arith, whole (period rate) count (p Length), ltb-false out (count / period rate * sent rate) (p Space))

pub depuncture_enough : (rate : CodeRate) (count out : ℕ) → Accepted ≡ first_row (depuncture_rows rate count out) → count / sent rate * (2 * period rate) ≤ out
depuncture_enough rate count out e = ltb-false out (count / sent rate * (2 * period rate)) (passed (depuncture_rows rate count out) tt (sym e) Space)

pub decode_enough : (rate : CodeRate) (xs : List Float) (tb decisions out : ℕ) → Accepted ≡ first_row (decode_rows rate xs tb decisions out)
    → (tb ≤ traceback_limit) × (block + depth tb ≤ decisions) × (length xs / sent rate * period rate ≤ out)
decode_enough rate xs tb decisions out e =
    let need = length xs / sent rate * period rate in
    let p = passed (decode_rows rate xs tb decisions out) tt (sym e) in
    let q = neither (ltb out need) (ltb decisions (block + depth tb)) (p Space) in
    (ltb-false traceback_limit tb (p Traceback), ltb-false decisions (block + depth tb) q.1, ltb-false out need q.0)

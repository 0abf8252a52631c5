-- The answer of each call from its tests, in the numbers of a compiled puncturing.
use mathlib.Core.Path.{◌≡◌, refl}
use mathlib.Core.Bool.{Bool, cond, not, ◌||◌}
use mathlib.Core.List.{List}
use Prim.Native.Nat.{ℕ, ◌+◌, ◌*◌, ◌/◌, ◌%◌}
use lib.Dec.{eqb, ltb}
use lib.ListN.{length}
use lib.Ieee.{Float}
use Rattle.refusal.specs.Rows.{first_row, Accepted, Traceback, State, Length, Sample, Space}
use Rattle.isdb_fec.specs.Values.{some_beyond, stream_limit}
use Rattle.isdbt_table.specs.declared.CodeRate.{CodeRate}
use Rattle.isdbt_table.specs.declared.Puncturing.{Puncturing}
use Rattle.isdbt_table.specs.Table.{compiled}
use Rattle.isdbt_rows.specs.Rows.{encode_rows, depuncture_rows, decode_rows}
use Rattle.trellis.specs.Run.{depth}

module _ (rate : CodeRate) {p : Puncturing} (e : p ≡ compiled rate) where
  pub encode_answer : (s count out : ℕ) (state whole short : Bool)
      → ltb 63 s ≡ state → eqb (count % p.period) 0 ≡ whole → ltb out (count / p.period * p.n) ≡ short
      → cond state State (cond (not whole) Length (cond short Space Accepted)) ≡ first_row (encode_rows rate s count out)
  encode_answer s count out state whole short a b c = rw (← a, ← b, ← c, e) refl

  pub depuncture_answer : (count out : ℕ) (whole short : Bool) → eqb (count % p.n) 0 ≡ whole → ltb out (count / p.n * (2 * p.period)) ≡ short
      → cond (not whole) Length (cond short Space Accepted) ≡ first_row (depuncture_rows rate count out)
  depuncture_answer count out whole short a b = rw (← a, ← b, e) refl

  pub decode_answer : (xs : List Float) (tb decisions out : ℕ) (deep whole beyond short few : Bool)
      → ltb 1024 tb ≡ deep → eqb (length xs % p.n) 0 ≡ whole → some_beyond stream_limit xs ≡ beyond
      → ltb out (length xs / p.n * p.period) ≡ short → ltb decisions (4096 + depth tb) ≡ few
      → cond deep Traceback (cond (not whole) Length (cond beyond Sample (cond (short || few) Space Accepted))) ≡ first_row (decode_rows rate xs tb decisions out)
  decode_answer xs tb decisions out deep whole beyond short few a b c d f = rw (← a, ← b, ← c, ← d, ← f, e) refl

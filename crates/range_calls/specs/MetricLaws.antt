-- Whole metrics of a reading are stream values.
use Rattle.std.specs.Prelude.{◌≡◌, refl, false, List, ℕ, zero, suc, ◌+◌, ◌*◌, ◌/◌, ◌%◌, ◌<◌, ℤ, T, length, get_or, Float}
use Rattle.std.proofs.Common.{sym, ap, subst, arith}
use Rattle.std.specs.Float.{nan}
use Rattle.std.specs.Float.Ieee.{neg, le, of_bits, fits}
use Rattle.std.specs.Float.Ieee.Fits.{and_i}
use Rattle.ieee.specs.Value.{hi, lo}
use Rattle.ieee.specs.Rounding.{pow2}
use Rattle.ieee.specs.Whole.{hi_z, lo_z}
use Rattle.ieee.proofs.Whole.{on_neg}
use Rattle.trellis.specs.Run.{quadruple}
use Rattle.path_greatest.specs.Paths.{bound, Integer, Quadruples}
use Rattle.path_greatest.proofs.Exact.{Whole, le_from}
use Rattle.path_greatest.proofs.Integers.{integer_whole, hi_most, lo_most}
use Rattle.ieee.specs.Within.{within}
use Rattle.isdb_fec.specs.Values.{some_beyond, stream_limit}
use Rattle.range_calls.specs.Inside.{none_beyond}

-- the limit as a whole number
limit_whole : Whole stream_limit 1048576 0
unfolding of_bits fits hi lo pow2
limit_whole = record { num = record { fin_x = tt; fits_x = tt }; hi_is = refl; lo_is = refl }

-- a whole number within the bound
integer_inside : (x : Float) (z : ℤ) → Integer bound x z → T (within stream_limit x)
integer_inside x z i =
    let p = hi_most bound z i.within in
    let n = lo_most bound z i.within in
    let w = integer_whole bound x z (omega arith) i in
    and_i (le (neg stream_limit) x) (le x stream_limit)
    (le_from (neg stream_limit) x 0 1048576 (hi_z z) (lo_z z) (on_neg limit_whole) w (omega arith))
    (le_from x stream_limit (hi_z z) (lo_z z) 1048576 0 w limit_whole (omega arith))

-- no metric of n whole quadruples is beyond the limit
pub metrics_inside : (xs : List Float) (n : ℕ) (m : ℕ → ℕ → ℤ) → length xs ≡ 4 * n → Quadruples (quadruple xs) m n → some_beyond stream_limit xs ≡ false
metrics_inside xs n m count quads = none_beyond stream_limit xs inside
  where
    at : (i c : ℕ) → c < 4 → i ≡ 4 * (i / 4) + c → get_or (quadruple xs (i / 4)) c nan ≡ get_or xs i nan
    at i zero l e = let z : 4 * (i / 4) ≡ i = omega arith in ap (λ (j : ℕ). get_or xs j nan) z
    at i (suc zero) l e = ap (λ (j : ℕ). get_or xs j nan) (sym e)
    at i (suc (suc zero)) l e = ap (λ (j : ℕ). get_or xs j nan) (sym e)
    at i (suc (suc (suc zero))) l e = ap (λ (j : ℕ). get_or xs j nan) (sym e)
    at i (suc (suc (suc (suc c)))) l e = absurd (omega arith)

    inside : (i : ℕ) → i < length xs → T (within stream_limit (get_or xs i nan))
    inside i h =
        let k = i / 4 in
        integer_inside (get_or xs i nan) (m k (i % 4)) (subst (λ (x : Float). Integer bound x (m k (i % 4))) (at i (i % 4) (omega arith) (omega arith)) (quads k (i % 4) (omega arith) (omega arith)))

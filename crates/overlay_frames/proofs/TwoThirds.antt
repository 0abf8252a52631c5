-- Request P14, "Show as well that the ISDB-S 2/3 order is two periods of the ISDB-T one".
use Rattle.std.specs.Prelude.{◌≡◌, refl, List, [], ◌∷◌, ◌++◌, map, ℕ, zero, suc, ◌+◌, ◌*◌, ◌/◌, ◌%◌, ◌<◌, length, get_or}
use Rattle.std.proofs.Common.{sym, ap, ◌∙◌, arith}
use Rattle.trellis.specs.Lists.{upto}
use Rattle.trellis.specs.Code.{isdb}
use Rattle.isdbs_combination.specs.declared.Combination.TheVariants.{Qpsk2_3}
use Rattle.isdbs_points.specs.Layout.{sent_order, order_of, steps_per_period}
use Rattle.trellis.specs.LaidLaws.{upto_cong}
use Rattle.isdbt_table.specs.declared.CodeRate.TheVariants.{R2_3}
use Rattle.isdbt_table.specs.Table.{bit_order, period}
use Rattle.isdbt_table.specs.Puncture.{bit_place, punctured}
use Rattle.overlay_laws.specs.Overlaid.{chosen}
use Rattle.trellis.specs.Encoded.{coded_bits}
use Rattle.overlay_frames.specs.IsdbT.{punctured_chosen}
use Rattle.overlay_frames.specs.IsdbS.{kept_bits, kept_place, kept_chosen}

-- the order 0, 1, 3, and then the same with the 4 mother bits of a period added: 4, 5, 7
pub two_periods : order_of Qpsk2_3 ≡ bit_order R2_3 ++ map (λ a. 2 * period R2_3 + a) (bit_order R2_3)
unfolding sent_order
two_periods = refl

pub two_periods_steps : steps_per_period Qpsk2_3 ≡ 2 * period R2_3
two_periods_steps = refl

-- ---- the kept bits
-- sent bit j = 6 q + m
place_of : (m q j : ℕ) → m < 6 → j ≡ 6 * q + m → 4 * (j / 3) + get_or (bit_order R2_3) (j % 3) 0 ≡ 8 * q + get_or (0 ∷ 1 ∷ 3 ∷ 4 ∷ 5 ∷ 7 ∷ []) m 0
place_of zero q j h e = let a : j / 3 ≡ 2 * q = omega arith in let b : j % 3 ≡ 0 = omega arith in rw (a, b) (omega arith)
place_of (suc zero) q j h e = let a : j / 3 ≡ 2 * q = omega arith in let b : j % 3 ≡ 1 = omega arith in rw (a, b) (omega arith)
place_of (suc (suc zero)) q j h e = let a : j / 3 ≡ 2 * q = omega arith in let b : j % 3 ≡ 2 = omega arith in rw (a, b) (omega arith)
place_of (suc (suc (suc zero))) q j h e = let a : j / 3 ≡ 2 * q + 1 = omega arith in let b : j % 3 ≡ 0 = omega arith in rw (a, b) (omega arith)
place_of (suc (suc (suc (suc zero)))) q j h e = let a : j / 3 ≡ 2 * q + 1 = omega arith in let b : j % 3 ≡ 1 = omega arith in rw (a, b) (omega arith)
place_of (suc (suc (suc (suc (suc zero))))) q j h e = let a : j / 3 ≡ 2 * q + 1 = omega arith in let b : j % 3 ≡ 2 = omega arith in rw (a, b) (omega arith)
place_of (suc (suc (suc (suc (suc (suc m)))))) q j h e = absurd (omega arith)

-- each bit that is sent has one place under both
pub same_place : (j : ℕ) → kept_place Qpsk2_3 j ≡ bit_place R2_3 j
unfolding sent_order
same_place j =
    let q = j / 6 in
    let a : ℕ = get_or (0 ∷ 1 ∷ 3 ∷ 4 ∷ 5 ∷ 7 ∷ []) (j % 6) 0 in
    let p : bit_place R2_3 j ≡ 8 * q + a = place_of (j % 6) q j (omega arith) (omega arith) in
    let x : 2 * (q * 4) + a ≡ 8 * q + a = omega arith in
    x ∙ sym p

-- over any number n of whole ISDB-S periods both puncturings keep the same bits in the same order
pub kept_same : (n s : ℕ) (us : List ℕ) → length us ≡ n * steps_per_period Qpsk2_3 → kept_bits Qpsk2_3 s us ≡ punctured R2_3 s us
unfolding sent_order
kept_same n s us e =
    let a : length us / 4 * 6 ≡ length us / 2 * 3 = omega arith in
    kept_chosen Qpsk2_3 s us
    ∙ ap (λ (i : ℕ). chosen (upto (kept_place Qpsk2_3) i) (coded_bits isdb s us)) a
    ∙ ap (λ (ps : List ℕ). chosen ps (coded_bits isdb s us)) (upto_cong (kept_place Qpsk2_3) (bit_place R2_3) (length us / 2 * 3) (λ j h. same_place j))
    ∙ sym (punctured_chosen R2_3 s us)

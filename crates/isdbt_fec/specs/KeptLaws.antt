-- Depuncturing is the inverse of puncturing: each kept bit gets its place, and 0 stands elsewhere.
use Rattle.std.specs.Prelude.{◌≡◌, refl, Bool, true, false, List, [], ◌∷◌, T, eqb}
use Rattle.std.proofs.Common.{sym, ◌∙◌, eqb-true}
use Rattle.std.proofs.Math.Path.{ap}
use Rattle.std.proofs.Math.Bool.{cond}
use Prim.Native.Nat.{ℕ, suc, ◌+◌, ◌*◌, ◌/◌, ◌%◌, ◌<◌}
use native.Mathlib.Omega.{arith}
use Rattle.std.proofs.Math.ListN.{length, get_or}
use Rattle.std.specs.Float.Ieee.{Float, nan, binary32, of_bits}
use Rattle.trellis.specs.Lists.{upto}
use Rattle.isdbt_table.specs.declared.CodeRate.{CodeRate}
use Rattle.isdbt_table.specs.declared.CodeRate.TheVariants.{R1_2, R2_3, R3_4, R5_6, R7_8}
use Rattle.isdbt_table.specs.Table.{period, sent, bit_order}
use Rattle.isdbt_table.specs.Puncture.{bit_place, spread, soft_at, depunctured, kept}
use Rattle.trellis.specs.EachLaws.{all, each}
use Rattle.trellis.specs.LaidLaws.{upto_cong}
use Rattle.trellis.specs.ListLaws.{length_upto, get_d_upto, equal_tests, equal_tests_lem}
use Rattle.isdbt_table.specs.SizeLaws.{place_in_lem}

-- whether k is one of ps
abbrev has : List ℕ → ℕ → Bool
has [] k = false
has (p ∷ ps) k = cond (eqb k p) true (has ps k)

-- values that stand in the order ps, for a value of each mother bit
spread_case : (t : Bool) (f : ℕ → Float) (p k : ℕ) (x rest : Float) (more : Bool) → eqb k p ≡ t → x ≡ f p → rest ≡ cond more (f k) (of_bits binary32 0)
    → cond t x rest ≡ cond (cond t true more) (f k) (of_bits binary32 0)
spread_case true f p k x rest more e a b = a ∙ ap f (sym (eqb-true k p e))
spread_case false f p k x rest more e a b = b

spread_has : (f : ℕ → Float) (ps : List ℕ) (xs : List Float) (j k : ℕ) → ((i : ℕ) → i < length ps → get_or xs (j + i) nan ≡ f (get_or ps i 0))
    → spread ps xs j k ≡ cond (has ps k) (f k) (of_bits binary32 0)
unfolding spread
spread_has f [] xs j k h = refl
spread_has f (p ∷ ps) xs j k h =
    let first : get_or xs j nan ≡ f p = ap (λ (i : ℕ). get_or xs i nan) (omega arith) ∙ h 0 (omega arith) in
    let rest : spread ps xs (j + 1) k ≡ cond (has ps k) (f k) (of_bits binary32 0) =
    spread_has f ps xs (j + 1) k (λ i l. ap (λ (m : ℕ). get_or xs m nan) (let z : j + 1 + i ≡ j + suc i = omega arith in z) ∙ h (suc i) (omega arith)) in
    spread_case (eqb k p) f p k (get_or xs j nan) (spread ps xs (j + 1) k) (has ps k) refl first rest

-- the order has exactly the bits whose row has a 1
all_kept : (rate : CodeRate) → T (all (2 * period rate) (λ k. equal_tests (has (bit_order rate) k) (kept rate k)))
all_kept R1_2 = tt
all_kept R2_3 = tt
all_kept R3_4 = tt
all_kept R5_6 = tt
all_kept R7_8 = tt

pub has_kept : (rate : CodeRate) (k : ℕ) → k < 2 * period rate → has (bit_order rate) k ≡ kept rate k
has_kept rate k h =
    equal_tests_lem (has (bit_order rate) k) (kept rate k) (each (2 * period rate) (λ k. equal_tests (has (bit_order rate) k) (kept rate k)) (all_kept rate) k h)

-- the row's column repeats with the period
kept_again : (rate : CodeRate) (k : ℕ) → kept rate (k % (2 * period rate)) ≡ kept rate k
kept_again R1_2 k = let a : k % 2 % 2 ≡ k % 2 = omega arith in rw a refl
kept_again R2_3 k = let a : k % 4 % 4 ≡ k % 4 = omega arith in let b : k % 4 % 2 ≡ k % 2 = omega arith in rw (a, b) refl
kept_again R3_4 k = let a : k % 6 % 6 ≡ k % 6 = omega arith in let b : k % 6 % 2 ≡ k % 2 = omega arith in rw (a, b) refl
kept_again R5_6 k = let a : k % 10 % 10 ≡ k % 10 = omega arith in let b : k % 10 % 2 ≡ k % 2 = omega arith in rw (a, b) refl
kept_again R7_8 k = let a : k % 14 % 14 ≡ k % 14 = omega arith in let b : k % 14 % 2 ≡ k % 2 = omega arith in rw (a, b) refl

-- k is bit k % (2 p) of period k / (2 p)
split : (rate : CodeRate) (k : ℕ) → 2 * (k / (2 * period rate) * period rate) + k % (2 * period rate) ≡ k
split R1_2 k = omega arith
split R2_3 k = omega arith
split R3_4 k = omega arith
split R5_6 k = omega arith
split R7_8 k = omega arith

inside : (rate : CodeRate) (k : ℕ) → k % (2 * period rate) < 2 * period rate
inside R1_2 k = omega arith
inside R2_3 k = omega arith
inside R3_4 k = omega arith
inside R5_6 k = omega arith
inside R7_8 k = omega arith

below : (rate : CodeRate) (b k i : ℕ) → k < b * (2 * period rate) → i < sent rate → sent rate * (k / (2 * period rate)) + i < b * sent rate
below R1_2 b k i h g = omega arith
below R2_3 b k i h g = omega arith
below R3_4 b k i h g = omega arith
below R5_6 b k i h g = omega arith
below R7_8 b k i h g = omega arith

whole : (rate : CodeRate) (b : ℕ) → b * sent rate / sent rate ≡ b
whole R1_2 b = omega arith
whole R2_3 b = omega arith
whole R3_4 b = omega arith
whole R5_6 b = omega arith
whole R7_8 b = omega arith

length_order : (rate : CodeRate) → length (bit_order rate) ≡ sent rate
length_order R1_2 = refl
length_order R2_3 = refl
length_order R3_4 = refl
length_order R5_6 = refl
length_order R7_8 = refl

-- The soft values f of the mother bits of b periods, punctured as bits are, and then depunctured
module _ (rate : CodeRate) (f : ℕ → Float) (b : ℕ) where
  abbrev pub sent_values : List Float
  sent_values = upto (λ j. f (bit_place rate j)) (b * sent rate)

  value_at : (k : ℕ) → k < b * (2 * period rate) → soft_at rate sent_values k ≡ cond (kept rate k) (f k) (of_bits binary32 0)
  unfolding soft_at
  value_at k h =
      let q = k / (2 * period rate) in
      let r = k % (2 * period rate) in
      let g : ℕ → Float = λ m. f (2 * (q * period rate) + m) in
      let turn : sent rate * q ≡ q * sent rate = omega arith in
      let all_there : (i : ℕ) → i < length (bit_order rate) → get_or sent_values (sent rate * q + i) nan ≡ g (get_or (bit_order rate) i 0) =
      λ i l.
      let l' : i < sent rate = rw (length_order rate) at l in
      get_d_upto (λ j. f (bit_place rate j)) nan (b * sent rate) (sent rate * q + i) (below rate b k i h l')
      ∙ ap f (ap (λ (m : ℕ). bit_place rate (m + i)) turn ∙ place_in_lem rate q i l') in
      spread_has g (bit_order rate) sent_values (sent rate * q) r all_there
      ∙ ap (λ (t : Bool). cond t (f (2 * (q * period rate) + r)) (of_bits binary32 0)) (has_kept rate r (inside rate k) ∙ kept_again rate k)
      ∙ ap (λ (m : ℕ). cond (kept rate k) (f m) (of_bits binary32 0)) (split rate k)

  pub depunctured_kept : depunctured rate sent_values ≡ upto (λ k. cond (kept rate k) (f k) (of_bits binary32 0)) (b * (2 * period rate))
  unfolding depunctured
  depunctured_kept =
      let n : length sent_values / sent rate ≡ b = ap (λ (m : ℕ). m / sent rate) (length_upto (λ j. f (bit_place rate j)) (b * sent rate)) ∙ whole rate b in
      ap (λ (m : ℕ). upto (soft_at rate sent_values) (m * (2 * period rate))) n
      ∙ upto_cong (soft_at rate sent_values) (λ k. cond (kept rate k) (f k) (of_bits binary32 0)) (b * (2 * period rate)) value_at

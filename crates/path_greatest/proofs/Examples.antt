-- The definitions computed on small cases, and a case with two paths of greatest sum.
use Rattle.std.specs.Prelude.{◌≡◌, refl, List, [], ◌∷◌, ℕ, zero, suc, ◌<◌, pos, negsuc, T, get_or, Float}
use Rattle.std.proofs.Common.{inl, inr, arith, lit≤, lit<}
use Rattle.std.specs.Float.{nan, binary32}
use Rattle.std.specs.Float.Ieee.{add, sub, lt, le, eq, fits, of_int, of_bits}
use Rattle.trellis.specs.Lists.{upto, packed}
use Rattle.trellis.specs.Code.{output, tapped, label, state_at, label_at}
use Rattle.trellis.specs.Isdb
use Rattle.trellis.specs.Step.{four, Tie, lower, upper, branch, cand, wins, next, nexts, word, top, best, renormalised, kept, back, input, traced}
use Rattle.trellis.specs.Run.{start_at, settled, released, stepped, after}
use Rattle.path_greatest.specs.Paths.{Path, Tail, First, sumℤ, Reading, This, Integer, Quadruples}
use Rattle.path_greatest.proofs.Calls.{read_bits, isdb_given}

-- ---- 0.0, -0.0, 16.0 and -16.0 are whole numbers within 16; one half is none
pub zero_is : Integer 16 (of_bits binary32 0) (pos 0)
unfolding of_bits fits eq of_int
zero_is = record { held = tt; equal = tt; within = lit≤ tt }

pub minus_zero_is : Integer 16 (of_bits binary32 0x8000_0000) (pos 0)
unfolding of_bits fits eq of_int
minus_zero_is = record { held = tt; equal = tt; within = lit≤ tt }

pub sixteen_is : Integer 16 (of_bits binary32 0x4180_0000) (pos 16)
unfolding of_bits fits eq of_int
sixteen_is = record { held = tt; equal = tt; within = lit≤ tt }

pub minus_sixteen_is : Integer 16 (of_bits binary32 0xc180_0000) (negsuc 15)
unfolding of_bits fits eq of_int
minus_sixteen_is = record { held = tt; equal = tt; within = lit≤ tt }

pub half_is_not : T (eq (of_bits binary32 0x3f00_0000) (of_int binary32 (pos 0))) → ⊥
unfolding of_bits eq of_int
half_is_not t = t

-- ---- a path: document 01's example B. Its coded pairs are 3 2 3 3 0 1 3, so with the metric c for the pair c its sum is 15.
abbrev inputs_B : List ℕ
inputs_B = 1 ∷ 0 ∷ 0 ∷ 0 ∷ 0 ∷ 0 ∷ 0 ∷ []

pub states_B : upto (state_at 32 0 inputs_B) 8 ≡ 0 ∷ 32 ∷ 16 ∷ 8 ∷ 4 ∷ 2 ∷ 1 ∷ 0 ∷ []
unfolding upto state_at
states_B = refl

pub labels_B : upto (label_at Isdb.half Isdb.labels 0 inputs_B) 7 ≡ 3 ∷ 2 ∷ 3 ∷ 3 ∷ 0 ∷ 1 ∷ 3 ∷ []
unfolding upto state_at label output tapped
labels_B = refl

pub sum_B : sumℤ Isdb.half Isdb.labels (λ k c. pos c) 0 inputs_B 7 ≡ pos 15
unfolding sumℤ state_at label output tapped
sum_B = refl

-- ---- the order: of the two paths into state 0 on the input 0, from 0 and from 1, the first is the one from 0, or under the other rule the one from 1
pub order_lower : First 32 lower 0 (0 ∷ []) 1 (0 ∷ []) 1
unfolding Tail state_at
order_lower = inr (refl, inl (lit< tt))

pub order_upper : First 32 upper 1 (0 ∷ []) 0 (0 ∷ []) 1
unfolding Tail state_at
order_upper = inr (refl, inl (lit< tt))

-- ---- two paths of greatest sum: one quadruple of zeros, -0.0 among them, from the state 0. Both inputs give the sum 0.
abbrev pub zeros : ℕ → List Float
zeros k = of_bits binary32 0 ∷ of_bits binary32 0x8000_0000 ∷ of_bits binary32 0 ∷ of_bits binary32 0 ∷ []

pub zeros_whole : Quadruples zeros (λ k c. pos 0) 1
zeros_whole k c h l = go c l
  where
    go : (c : ℕ) → c < 4 → Integer 16 (get_or (zeros k) c nan) (pos 0)
    go zero l = zero_is
    go (suc zero) l = minus_zero_is
    go (suc (suc zero)) l = zero_is
    go (suc (suc (suc zero))) l = zero_is
    go (suc (suc (suc (suc c)))) l = absurd (omega arith)

one_path : (u : ℕ) → u < 2 → Path 32 1 0 (u ∷ [])
one_path u h = record { walk = record { start = lit< tt; bits = λ k l. go k l }; count = refl }
  where
    go : (k : ℕ) → k < 1 → get_or (u ∷ []) k 0 < 2
    go zero l = h
    go (suc k) l = absurd (omega arith)

pub two_paths : Path 32 1 0 (0 ∷ []) × Path 32 1 0 (1 ∷ []) × (sumℤ Isdb.half Isdb.labels (λ k c. pos 0) 0 (0 ∷ []) 1 ≡ pos 0) × (sumℤ Isdb.half Isdb.labels (λ k c. pos 0) 0 (1 ∷ []) 1 ≡ pos 0)
unfolding sumℤ
two_paths = (one_path 0 (lit< tt), one_path 1 (lit< tt), refl, refl)

-- the decoder reads 0, under the other rule 1
abbrev pub read_zeros : Tie → List ℕ
read_zeros t = read_bits Isdb.half Isdb.labels t 128 (λ k. four (zeros k)) (start_at 64 0) 1

pub zeros_lower : read_zeros lower ≡ 0 ∷ []
unfolding start_at settled released stepped after upto packed label output tapped branch cand wins next nexts word top best renormalised kept back input traced of_bits add sub lt
zeros_lower = refl

pub zeros_upper : read_zeros upper ≡ 1 ∷ []
unfolding start_at settled released stepped after upto packed label output tapped branch cand wins next nexts word top best renormalised kept back input traced of_bits add sub lt le
zeros_upper = refl

-- and the theorem says of that reading that it is the first
pub zeros_reading : Reading Isdb.half Isdb.labels Isdb.rule (This 0) (λ k c. pos 0) 1 (read_zeros Isdb.rule)
zeros_reading = isdb_given 128 (lit< tt) zeros (λ k c. pos 0) 1 (lit≤ tt) zeros_whole 0

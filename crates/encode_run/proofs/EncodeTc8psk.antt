-- The points of a TC8PSK run, byte by byte.
use mathlib.Core.Path.{◌≡◌, sym, ◌∙◌, ap}
use mathlib.Core.List.{List, ◌++◌}
use Prim.Native.Nat.{ℕ, zero, suc, ◌+◌, ◌*◌, ◌/◌, ◌%◌, ◌<◌, ◌≤◌}
use native.Mathlib.Nat.{mod-lt}
use native.Mathlib.Omega.{arith}
use lib.Dec.{lit<}
use lib.Ieee.{Float, nan}
use lib.ListN.{length, get_or, take, drop}
use Rattle.trellis.specs.Lists.{upto, laid}
use Rattle.trellis.specs.Code.{state_at}
use Rattle.encode_bits.specs.Windows.{backward}
use Rattle.encode_bits.specs.WindowLaws.{backward_small, backward_twice}
use Rattle.trellis.specs.ListLaws.{get_d_upto}
use Rattle.isdbs_combination.specs.declared.Combination.TheVariants.{Tc8psk2_3}
use Rattle.isdbs_points.specs.declared.Mapping.{Mapping}
use Rattle.isdbs_points.specs.Layout.{load_bit}
use Rattle.isdbs_points.specs.Frame.{input_in}
use Rattle.isdbs_points.specs.Pieces.{piece, piece_inputs, piece_label}
use Rattle.encode_bits.specs.Bits.{byte_bit, byte_inputs}
use Rattle.encode_run.specs.Encoded.{piece_point, psk8_label, register_at, register_label, byte_register}
use Rattle.isdbs_points.specs.StateLaws.{Follow}
use Rattle.encode_run.specs.PieceLaws.{Going, label_small, register_more, going_part, tc8psk_point}

-- a state of 64 stays one
state_small : (s : ℕ) (us : List ℕ) (k : ℕ) → s < 64 → ((i : ℕ) → i < k → get_or us i 0 < 2) → state_at 32 s us k < 64
unfolding state_at
state_small s us zero h u = h
state_small s us (suc k) h u =
    let a = u k (omega arith) in
    let b = state_small s us k h (λ i l. u i (omega arith)) in
    omega arith

-- the three parts of 128 C2 + a register
parts : (c b u : ℕ) → c < 2 → b < 64 → u < 2 → ((128 * c + (2 * b + u)) / 128 ≡ c) × ((128 * c + (2 * b + u)) % 2 ≡ u) × ((128 * c + (2 * b + u)) / 2 % 64 ≡ b)
parts c b u hc hb hu = (omega arith, omega arith, omega arith)

-- 128 C2 + the register of a TC8PSK point's step, and the point that a table has there
module _ (load : List ℕ) (bit n s : ℕ) where
  abbrev us : List ℕ
  us = piece_inputs Tc8psk2_3 load bit n

  abbrev pub tc8psk_register : ℕ → ℕ
  tc8psk_register k = 128 * load_bit load (bit + 2 * k) + register_at s us k

  c2_small : (k : ℕ) → load_bit load (bit + 2 * k) < 2
  c2_small k = mod-lt _ (lit< tt)

  input_small : (k : ℕ) → k < n → get_or us k 0 < 2
  input_small k h = rw (get_d_upto (input_in load (piece Tc8psk2_3 bit)) 0 n k h) (mod-lt _ (lit< tt))

  module _ (small : s < 64) (k : ℕ) (h : k < n) where
    abbrev state : ℕ
    state = state_at 32 s us k

    pub tc8psk_register_small : tc8psk_register k < 256
    tc8psk_register_small = omega (arith, c2_small k, input_small k h, backward_small state)

    registered : register_label (tc8psk_register k) ≡ 4 * load_bit load (bit + 2 * k) + piece_label Tc8psk2_3 load bit n s k
    registered =
        let p = parts (load_bit load (bit + 2 * k)) (backward state) (get_or us k 0) (c2_small k) (backward_small state) (input_small k h) in
        rw (p.0, p.1, p.2, backward_twice state (state_small s us k small (λ i l. input_small i (omega arith))))

    pub tc8psk_labelled : (m : Mapping) → psk8_label m (register_label (tc8psk_register k)) ≡ piece_point Tc8psk2_3 m load bit n s k
    tc8psk_labelled m =
        let c = c2_small k in
        let l = label_small s us k in
        let q = 4 * load_bit load (bit + 2 * k) + piece_label Tc8psk2_3 load bit n s k in
        let x : q / 4 ≡ load_bit load (bit + 2 * k) = omega arith in
        let y : q % 4 ≡ piece_label Tc8psk2_3 load bit n s k = omega arith in
        rw (registered, x, y) (sym (tc8psk_point m load bit n s k))

-- ---- a byte of the load
module _ (load : List ℕ) (bit k : ℕ) (b : bit % 8 ≡ 0) (h : k % 4 ≡ 0) where
  abbrev pub byte_at : ℕ
  byte_at = get_or load (bit / 8 + k / 4) 0

  byte_bit_lem : (i j : ℕ) → j < 8 → i ≡ bit + 2 * k + j → load_bit load i ≡ byte_bit byte_at j
  byte_bit_lem i j l e =
      let x : i / 8 ≡ bit / 8 + k / 4 = omega arith in
      let y : i % 8 ≡ j = omega arith in
      rw (x, y)

  follow_byte : (n : ℕ) → k + 4 ≤ n → Follow (piece_inputs Tc8psk2_3 load bit n) k (byte_inputs byte_at) 4
  follow_byte n w i l =
      get_d_upto (input_in load (piece Tc8psk2_3 bit)) 0 n (k + i) (omega arith)
      ∙ byte_bit_lem (bit + (2 * (k + i) + 1)) (2 * i + 1) (omega arith) (omega arith)
      ∙ sym (get_d_upto (λ i. byte_bit byte_at (2 * i + 1)) 0 4 i l)

  -- a byte more
  pub going_byte : (n s : ℕ) (xs ys : List Float) {re₀ im₀ re im : List Float} (state : ℕ)
      → Going (piece_inputs Tc8psk2_3 load bit n) s (λ j. get_or xs (tc8psk_register load bit n s j) nan) (λ j. get_or ys (tc8psk_register load bit n s j) nan) re₀ im₀ re im (backward state) k k
      → k + 4 ≤ n → n ≤ length re₀ → n ≤ length im₀ → (r : ℕ) → backward r ≡ state_at 32 (backward state) (byte_inputs byte_at) 4
      → {re' im' : List Float}
      → re' ≡ take k re ++ laid (upto (λ i. get_or xs (byte_register byte_at (backward state) i) nan) 4) (drop k re)
      → im' ≡ take k im ++ laid (upto (λ i. get_or ys (byte_register byte_at (backward state) i) nan) 4) (drop k im)
      → Going (piece_inputs Tc8psk2_3 load bit n) s (λ j. get_or xs (tc8psk_register load bit n s j) nan) (λ j. get_or ys (tc8psk_register load bit n s j) nan) re₀ im₀ re' im' (backward r) (k + 4) (k + 4)
  going_byte n s xs ys {re₀} {im₀} {re} {im} state g l hr hi r e {re'} {im'} er ei =
      let w = follow_byte n l in
      let register : (i : ℕ) → i < 4 → byte_register byte_at (backward state) i ≡ tc8psk_register load bit n s (k + i) =
      λ i o. rw (← byte_bit_lem (bit + 2 * (k + i)) (2 * i) (omega arith) (omega arith), register_more g (byte_inputs byte_at) 4 w i o) in
      going_part g (byte_inputs byte_at) 4 w (backward r) (backward_small r) e (λ i. get_or xs (byte_register byte_at (backward state) i) nan) (λ i. get_or ys (byte_register byte_at (backward state) i) nan) 4 re' im' (omega arith) (omega arith) er ei
      (λ i o. ap (λ (x : ℕ). get_or xs x nan) (register i o)) (λ i o. ap (λ (x : ℕ). get_or ys x nan) (register i o))

-- A byte by its bits, high bit first.
use Rattle.std.specs.Prelude.{◌≡◌, refl, List, ℕ, zero, suc, ◌+◌, ◌*◌, ◌/◌, ◌%◌, ◌<◌, ◌≤◌, ◌^◌, Float, Bool, true, false}
use Rattle.std.proofs.Common.{sym, ◌∙◌, ap, subst, add-one, pow-suc, mod-lt, pow_mono, lit<}
use native.Mathlib.Omega.{arith}
use Rattle.std.proofs.Math.Nat.{zero-add}
use Rattle.std.proofs.Math.ListN.{get_or}
use Rattle.std.specs.Float.{nan}
use Rattle.std.specs.Float.Ieee.{lt}
use mir.Val.{bool_byte}
use Rattle.trellis.specs.Lists.{bit}
use Rattle.trellis.specs.Code.{isdb, label, output, moved, state_at}
use Rattle.isdbs_combination.specs.declared.Combination.TheVariants.{Tc8psk2_3}
use Rattle.isdbs_points.specs.declared.Mapping.{Mapping}
use Rattle.isdbs_points.specs.Points.{point, conjugated, psk8_of, subset, zero64}
use Rattle.isdbs_points.specs.Frame.{label_at}
use Rattle.isdbs_metrics.specs.Reading.{correlation, bit_by}
use Rattle.isdbs_points.specs.Layout.{byte_of}
use Rattle.isdbs_metrics.specs.Steps.{digits, piece_bit, Bits}
use Rattle.trellis.specs.Isdb
use Rattle.trellis.proofs.RunLaws.{output_bit_lem}

pub digits_small : (f : ℕ → ℕ) (n : ℕ) → ((i : ℕ) → i < n → f i < 2) → digits f n < 2 ^ n
unfolding digits
digits_small f zero h = omega arith
digits_small f (suc n) h =
    let d = digits_small f n (λ i l. h i (omega arith)) in
    let b = h n (omega arith) in
    let e : 2 ^ suc n ≡ 2 ^ n * 2 = pow-suc 2 n in
    omega arith

pub digits_seven : (f : ℕ → ℕ) (n : ℕ) → n ≤ 7 → ((i : ℕ) → i < n → f i < 2) → digits f n < 128
digits_seven f n l h =
    let d = digits_small f n h in
    let p : 2 ^ n ≤ 2 ^ 7 = pow_mono {i = n} {j = 7} l in
    omega arith

pub byte_digits : (f : ℕ → ℕ) → byte_of f ≡ digits f 8
unfolding digits
byte_digits f = omega arith

pub digits_two : (f : ℕ → ℕ) (i : ℕ) → digits f (2 * (i + 1)) ≡ 2 * (2 * digits f (2 * i) + f (2 * i)) + f (2 * i + 1)
unfolding digits
digits_two f i =
    let e : 2 * (i + 1) ≡ suc (suc (2 * i)) = omega arith in
    let g : 2 * i + 1 ≡ suc (2 * i) = omega arith in
    rw (e, g)

-- ---- TC8PSK: C2, then the decoded bit
module _ (re im : List Float) (m : Mapping) (s : ℕ) (us : List ℕ) (i : ℕ) where
  pub even_bit : piece_bit Tc8psk2_3 re im m s us (2 * i)
      ≡ bit (lt (correlation (point (get_or re i nan) (conjugated m.conjugate (get_or im i nan))) (psk8_of (subset m.tc8psk_c1_is_y (label_at s us i)))) zero64)
  unfolding bit_by
  even_bit =
      let e : 2 * i % 2 ≡ 0 = omega arith in
      let g : 2 * i / 2 ≡ i = omega arith in
      rw (e, g, zero-add i)

  pub odd_bit : piece_bit Tc8psk2_3 re im m s us (2 * i + 1) ≡ get_or us i 0
  unfolding bit_by
  odd_bit =
      let e : (2 * i + 1) % 2 ≡ 1 = omega arith in
      let g : (2 * i + 1) / 2 ≡ i = omega arith in
      rw (e, g, zero-add i)

pub bit_small : (b : Bool) → bit b < 2
bit_small true = omega arith
bit_small false = omega arith

pub bool_bit : (b : Bool) → bool_byte b ≡ bit b
bool_bit true = refl
bool_bit false = refl

-- the bits of 4 steps are bits
pub piece_small : (re im : List Float) (m : Mapping) (s : ℕ) (us : List ℕ) (n : ℕ) → ((i : ℕ) → i < n → get_or us i 0 < 2)
    → (j : ℕ) → j < 2 * n → piece_bit Tc8psk2_3 re im m s us j < 2
piece_small re im m s us n h j l = go (j % 2) refl
  where
    go : (x : ℕ) → j % 2 ≡ x → piece_bit Tc8psk2_3 re im m s us j < 2
    go zero e =
        let q : j ≡ 2 * (j / 2) = omega arith in
        subst (λ (y : ℕ). piece_bit Tc8psk2_3 re im m s us y < 2) (sym q)
        (rw (even_bit re im m s us (j / 2)) (bit_small (lt (correlation (point (get_or re (j / 2) nan) (conjugated m.conjugate (get_or im (j / 2) nan))) (psk8_of (subset m.tc8psk_c1_is_y (label_at s us (j / 2))))) zero64)))
    go (suc zero) e =
        let q : j ≡ 2 * (j / 2) + 1 = omega arith in
        subst (λ (y : ℕ). piece_bit Tc8psk2_3 re im m s us y < 2) (sym q) (rw (odd_bit re im m s us (j / 2)) (h (j / 2) (omega arith)))
    go (suc (suc x)) e = absurd (omega arith)

pub digits_six : (f : ℕ → ℕ) (n : ℕ) → n ≤ 6 → ((i : ℕ) → i < n → f i < 2) → digits f n < 64
digits_six f n l h =
    let d = digits_small f n h in
    let p : 2 ^ n ≤ 2 ^ 6 = pow_mono {i = n} {j = 6} l in
    omega arith

pub byte_cong : (f g : ℕ → ℕ) → ((i : ℕ) → i < 8 → f i ≡ g i) → byte_of f ≡ byte_of g
byte_cong f g h =
    rw (h 0 (omega arith), h 1 (omega arith), h 2 (omega arith), h 3 (omega arith), h 4 (omega arith), h 5 (omega arith), h 6 (omega arith), h 7 (omega arith))

-- ---- a step of TC8PSK
pub label_is : (x y u s : ℕ) → x ≡ output isdb 0o171 u s → y ≡ output isdb 0o133 u s → 2 * x + y ≡ Isdb.labels u s
unfolding label
label_is x y u s p q = rw (p, q)

pub outputs_small : {x y : ℕ} (u s : ℕ) → x ≡ output isdb 0o171 u s → y ≡ output isdb 0o133 u s → (x < 2) × (y < 2)
outputs_small u s p q = (rw p (output_bit_lem isdb 0o171 u s), rw q (output_bit_lem isdb 0o133 u s))

-- the byte so far after i of 4 steps, and the state
pub record Taken (re im : List Float) (m : Mapping) (s : ℕ) (us : List ℕ) (byte state i : ℕ) : Type 0 where
  pub done : i ≤ 4
  pub bits : Bits us 4
  pub byte_is : byte ≡ digits (piece_bit Tc8psk2_3 re im m s us) (2 * i)
  pub state_is : state ≡ state_at 32 s us i
  pub small : state < 64

module _ (re im : List Float) (m : Mapping) (s : ℕ) (us : List ℕ) where
  pub taken_first : s < 64 → Bits us 4 → Taken re im m s us 0 s 0
  unfolding digits state_at
  taken_first h b = record { done = omega arith; bits = b; byte_is = refl; state_is = refl; small = h }

  pub taken_next : (byte state i z c2 : ℕ) → Taken re im m s us byte state i → i < 4 → z ≡ moved 32 (get_or us i 0) state
      → c2 ≡ bit (lt (correlation (point (get_or re i nan) (conjugated m.conjugate (get_or im i nan))) (psk8_of (subset m.tc8psk_c1_is_y (Isdb.labels (get_or us i 0) state)))) zero64)
      → (2 * (2 * byte + c2) + get_or us i 0 < 256) × Taken re im m s us (2 * (2 * byte + c2) + get_or us i 0) z (i + 1)
  unfolding state_at
  taken_next byte state i z c2 t h z-is ec =
      let u = get_or us i 0 in
      let b = t.bits i h in
      let f = piece_bit Tc8psk2_3 re im m s us in
      let d = digits_six f (2 * i) (omega arith) (λ j l. piece_small re im m s us 4 t.bits j (omega arith)) in
      let ed = t.byte_is in
      let hs = t.small in
      let c2-small : c2 < 2 = rw ec (bit_small (lt (correlation (point (get_or re i nan) (conjugated m.conjugate (get_or im i nan))) (psk8_of (subset m.tc8psk_c1_is_y (Isdb.labels u state)))) zero64)) in (
        omega arith,
        record {
          done = omega arith;
          bits = t.bits;
          byte_is = rw (digits_two f i, even_bit re im m s us i, odd_bit re im m s us i, ← t.byte_is, ← t.state_is) (rw ec refl);
          state_is = rw (add-one i, ← t.state_is) z-is;
          small = omega arith;
        },
      )

  pub taken_all : (byte state i : ℕ) → Taken re im m s us byte state i → 4 ≤ i → (byte ≡ byte_of (piece_bit Tc8psk2_3 re im m s us)) × (state ≡ state_at 32 s us 4) × (state < 64)
  taken_all byte state i t h =
      let e : i ≡ 4 = omega (arith, t.done) in
      ((rw e at t.byte_is) ∙ sym (byte_digits (piece_bit Tc8psk2_3 re im m s us)), rw e at t.state_is, t.small)

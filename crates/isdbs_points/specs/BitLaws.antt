-- Bits of a load, coded bits and pairs: how large they are, and the bytes that bits make.
use Rattle.std.specs.Prelude.{◌≡◌, refl, Bool, true, false, cond, List, ℕ, zero, suc, ◌+◌, ◌-◌, ◌*◌, ◌/◌, ◌%◌, ◌^◌, ◌<◌, eqb, get_or}
use Rattle.std.proofs.Common.{sym, ◌∙◌, ap, mod-lt, div-add-mod', arith, lit<, ext_get_or}
use Rattle.trellis.specs.Lists.{upto}
use Rattle.trellis.specs.ListLaws.{length_upto, get_d_upto}
use Rattle.isdbs_points.specs.Points.{subset}
use Rattle.isdbs_points.specs.Layout.{load_bit, FullLoad, byte_of}
use Rattle.isdbs_points.specs.Frame.{coded_bit}

pub load_bit_small : (load : List ℕ) (n : ℕ) → load_bit load n < 2
load_bit_small load n = mod-lt (get_or load (n / 8) 0 / 2 ^ (7 - n % 8)) (lit< tt)

either_small : (t : Bool) (a b : ℕ) → a < 2 → b < 2 → cond t a b < 2
either_small true a b h k = h
either_small false a b h k = k

pub coded_small : (b l : ℕ) → l < 4 → coded_bit b l < 2
coded_small b l h = either_small (eqb (b % 2) 0) (l / 2) (l % 2) (omega arith) (mod-lt l (lit< tt))

pub subset_small : (w : Bool) (l : ℕ) → l < 4 → subset w l < 4
subset_small true l h = omega arith
subset_small false l h = h

-- "C1 is Y and C0 is X .. else the reverse": it is its own inverse
pub subset_back : (w : Bool) (l : ℕ) → l < 4 → subset w (subset w l) ≡ l
subset_back true l h = omega arith
subset_back false l h = refl

-- ---- pairs: number n is the first or the second of its pair
pub of_pair : (f : ℕ → ℕ) (n : ℕ) → cond (eqb (n % 2) 0) (f (2 * (n / 2))) (f (2 * (n / 2) + 1)) ≡ f n
of_pair f n = go (n % 2) (n / 2) (mod-lt n (lit< tt)) (div-add-mod' n 2)
  where
    go : (h q : ℕ) → h < 2 → q * 2 + h ≡ n → cond (eqb h 0) (f (2 * q)) (f (2 * q + 1)) ≡ f n
    go zero q l e = ap f (omega arith)
    go (suc zero) q l e = ap f (omega arith)
    go (suc (suc h)) q l e = absurd (omega arith)

-- ---- bytes
digits : (b b1 b2 b3 b4 b5 b6 b7 r0 r1 r2 r3 r4 r5 r6 : ℕ) → b ≡ 2 * b1 + r0 → b1 ≡ 2 * b2 + r1 → b2 ≡ 2 * b3 + r2 → b3 ≡ 2 * b4 + r3 → b4 ≡ 2 * b5 + r4
    → b5 ≡ 2 * b6 + r5 → b6 ≡ 2 * b7 + r6 → b7 * 128 + r6 * 64 + r5 * 32 + r4 * 16 + r3 * 8 + r2 * 4 + r1 * 2 + r0 ≡ b
digits b b1 b2 b3 b4 b5 b6 b7 r0 r1 r2 r3 r4 r5 r6 e0 e1 e2 e3 e4 e5 e6 = omega arith

top_bit : (b : ℕ) → b < 256 → b / 128 % 2 ≡ b / 128
top_bit b h = omega arith

lowest_bit : (b : ℕ) → b / 1 % 2 ≡ b % 2
lowest_bit b = omega arith

byte_is : (b : ℕ) → b < 256 → b / 128 % 2 * 128 + b / 64 % 2 * 64 + b / 32 % 2 * 32 + b / 16 % 2 * 16 + b / 8 % 2 * 8 + b / 4 % 2 * 4 + b / 2 % 2 * 2 + b / 1 % 2 ≡ b
byte_is b h =
    rw (top_bit b h, lowest_bit b)
    (digits b (b / 2) (b / 4) (b / 8) (b / 16) (b / 32) (b / 64) (b / 128) (b % 2) (b / 2 % 2) (b / 4 % 2) (b / 8 % 2) (b / 16 % 2) (b / 32 % 2) (b / 64 % 2)
    (omega arith) (omega arith) (omega arith) (omega arith) (omega arith) (omega arith) (omega arith))

load_bit_at : (load : List ℕ) (j i : ℕ) → i < 8 → load_bit load (8 * j + i) ≡ get_or load j 0 / 2 ^ (7 - i) % 2
load_bit_at load j i h =
    let q : (8 * j + i) / 8 ≡ j = omega arith in
    let r : (8 * j + i) % 8 ≡ i = omega arith in
    rw (q, r)

-- the bytes of a load are made of its bits
pub load_byte : (load : List ℕ) (j : ℕ) → get_or load j 0 < 256 → byte_of (λ i. load_bit load (8 * j + i)) ≡ get_or load j 0
load_byte load j h =
    rw (
      load_bit_at load j 0 (omega arith),
      load_bit_at load j 1 (omega arith),
      load_bit_at load j 2 (omega arith),
      load_bit_at load j 3 (omega arith),
      load_bit_at load j 4 (omega arith),
      load_bit_at load j 5 (omega arith),
      load_bit_at load j 6 (omega arith),
      load_bit_at load j 7 (omega arith),
    )
    (byte_is (get_or load j 0) h)

-- so a list of bytes with a full load's bits is the load
pub bytes_are : (load : List ℕ) (count : ℕ) (f : ℕ → ℕ) → FullLoad load count → ((n : ℕ) → n < 8 * count → f n ≡ load_bit load n)
    → upto (λ j. byte_of (λ i. f (8 * j + i))) count ≡ load
bytes_are load count f full h =
    ext_get_or 0 (upto (λ j. byte_of (λ i. f (8 * j + i))) count) load (length_upto (λ j. byte_of (λ i. f (8 * j + i))) count ∙ sym full.size)
    (λ j l.
    let J : j < count = rw (length_upto (λ j. byte_of (λ i. f (8 * j + i))) count) at l in
    get_d_upto (λ j. byte_of (λ i. f (8 * j + i))) 0 count j J
    ∙ rw (
      h (8 * j + 0) (omega arith),
      h (8 * j + 1) (omega arith),
      h (8 * j + 2) (omega arith),
      h (8 * j + 3) (omega arith),
      h (8 * j + 4) (omega arith),
      h (8 * j + 5) (omega arith),
      h (8 * j + 6) (omega arith),
      h (8 * j + 7) (omega arith),
    )
    (load_byte load j (full.bytes j J)))

-- bytes made of bits are a full load
pub byte_small : (f : ℕ → ℕ) → ((i : ℕ) → f i < 2) → byte_of f < 256
byte_small f h =
    let h0 = h 0 in
    let h1 = h 1 in
    let h2 = h 2 in
    let h3 = h 3 in
    let h4 = h 4 in
    let h5 = h 5 in
    let h6 = h 6 in
    let h7 = h 7 in
    omega arith

pub bytes_full : (f : ℕ → ℕ) → ((n : ℕ) → f n < 2) → (count : ℕ) → FullLoad (upto (λ j. byte_of (λ i. f (8 * j + i))) count) count
bytes_full f h count =
    record {
      size = length_upto (λ j. byte_of (λ i. f (8 * j + i))) count;
      bytes = λ k l. rw (get_d_upto (λ j. byte_of (λ i. f (8 * j + i))) 0 count k l) (byte_small (λ i. f (8 * k + i)) (λ i. h (8 * k + i)));
    }

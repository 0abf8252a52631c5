-- Slices filled from the front, one or two values at a time; two lists by turns; soft values from a place on.
use Rattle.std.specs.Prelude.{◌≡◌, refl, true, false, cond, List, ℕ, zero, suc, ◌+◌, ◌-◌, ◌*◌, ◌/◌, ◌%◌, ◌<◌, eqb, length, get_or, take, drop, set, Float}
use Rattle.std.proofs.Common.{◌∙◌, ap, arith, length-set, get_or-drop}
use Rattle.std.specs.Float.{nan, binary32}
use Rattle.std.specs.Float.Ieee.{mul}
use Rattle.trellis.specs.Lists.{upto, laid}
use Rattle.trellis.specs.LaidLaws.{upto_cong, laid_upto}
use Rattle.isdbs_points.specs.declared.Mapping.{Mapping}
use Rattle.isdbs_points.specs.Points.{conjugated}
use Rattle.ieee_cast.specs.Soft.{soft_of}
use Rattle.isdbs_metrics.specs.Steps.{qpsk_part}
use Rattle.isdbs_metrics.specs.FrameRunLaws.{tail_is}
use Rattle.decode_parts.specs.Turns.{turns}

module _ {A : Type 0} where
  pub put_one : (f : ℕ → A) (k : ℕ) (v : A) (l w : List A) → k < length w → l ≡ laid (upto f k) w → v ≡ f k → set l k v ≡ laid (upto f (k + 1)) w
  put_one f k v l w h e q = ap (λ (z : List A). set z k v) e ∙ laid_upto f k w v h q

  pub put_two : (f : ℕ → A) (i : ℕ) (a b : A) (l w : List A) → 2 * i + 1 < length w → l ≡ laid (upto f (2 * i)) w → a ≡ f (2 * i) → b ≡ f (2 * i + 1)
      → set (set l (2 * i) a) (2 * i + 1) b ≡ laid (upto f (2 * (i + 1))) w
  put_two f i a b l w h e qa qb =
      let to : 2 * (i + 1) ≡ 2 * i + 1 + 1 = omega arith in
      rw to (put_one f (2 * i + 1) b (set l (2 * i) a) w h (put_one f (2 * i) a l w (omega arith) e qa) qb)

  pub length_two : (l : List A) (i j : ℕ) (a b : A) → length (set (set l i a) j b) ≡ length l
  length_two l i j a b = length-set (set l i a) j b ∙ length-set l i a

-- ---- two lists by turns
module _ (f g : ℕ → Float) (i : ℕ) where
  pub turns_first : turns f g (2 * i) ≡ f i
  turns_first =
      let e : 2 * i % 2 ≡ 0 = omega arith in
      let q : 2 * i / 2 ≡ i = omega arith in
      rw (e, q)

  pub turns_second : turns f g (2 * i + 1) ≡ g i
  turns_second =
      let e : (2 * i + 1) % 2 ≡ 1 = omega arith in
      let q : (2 * i + 1) / 2 ≡ i = omega arith in
      rw (e, q)

-- ---- the parts of QPSK
swapped : (r : ℕ) (x y : Float) → r < 2 → cond (eqb r 0) y x ≡ cond (eqb r 1) x y
swapped zero x y h = refl
swapped (suc zero) x y h = refl
swapped (suc (suc r)) x y h = absurd (omega arith)

module _ (re im : List Float) (m : Mapping) (from n : ℕ) (w : List Float) where
  abbrev real : ℕ → Float
  real k = conjugated false (get_or re (from + k) nan)

  abbrev imaginary : ℕ → Float
  imaginary k = conjugated m.conjugate (get_or im (from + k) nan)

  half : (i : ℕ) → (2 * from + i) / 2 ≡ from + i / 2
  half i = omega arith

  low : (i : ℕ) → (2 * from + i) % 2 ≡ i % 2
  low i = omega arith

  pub real_first : m.qpsk_p1_on_q ≡ false → laid (upto (turns real imaginary) (2 * n)) w ≡ laid (upto (λ i. qpsk_part re im m (2 * from + i)) (2 * n)) w
  real_first e =
      ap (λ (z : List Float). laid z w) (upto_cong (turns real imaginary) (λ i. qpsk_part re im m (2 * from + i)) (2 * n) (λ i l. rw (half i, low i, e)))

  pub imaginary_first : m.qpsk_p1_on_q ≡ true → laid (upto (turns imaginary real) (2 * n)) w ≡ laid (upto (λ i. qpsk_part re im m (2 * from + i)) (2 * n)) w
  imaginary_first e =
      ap (λ (z : List Float). laid z w)
      (upto_cong (turns imaginary real) (λ i. qpsk_part re im m (2 * from + i)) (2 * n)
      (λ i l. let r : i % 2 < 2 = omega arith in rw (half i, low i, e) (swapped (i % 2) (real (i / 2)) (imaginary (i / 2)) r)))

-- ---- soft values from a place on
pub soft_tail : (re : List Float) (scale : Float) (from n : ℕ) (w : List Float)
    → laid (upto (λ i. mul binary32 (soft_of (get_or (take (length re - from) (drop from re)) i nan)) scale) n) w ≡ laid (upto (λ j. mul binary32 (soft_of (get_or re (from + j) nan)) scale) n) w
soft_tail re scale from n w =
    ap (λ (z : List Float). laid z w)
    (upto_cong (λ i. mul binary32 (soft_of (get_or (take (length re - from) (drop from re)) i nan)) scale) (λ j. mul binary32 (soft_of (get_or re (from + j) nan)) scale) n
    (λ i l. rw (tail_is from re, get_or-drop from re i nan)))

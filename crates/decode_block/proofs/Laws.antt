-- Slices filled from the front, four values at a time.
use mathlib.Core.Path.{◌≡◌, sym, ◌∙◌, ap, subst}
use mathlib.Core.List.{List, [], ◌∷◌}
use Prim.Native.Nat.{ℕ, ◌+◌, ◌*◌, ◌/◌, ◌%◌, ◌<◌, ◌≤◌}
use native.Mathlib.Omega.{arith}
use lib.ListN.{length, get_or, set}
use lib.Ieee.{Float, nan}
use Rattle.trellis.specs.Lists.{upto, laid}
use Rattle.trellis.specs.Step.{Step, four}
use Rattle.trellis.specs.Run.{four_steps}
use Rattle.trellis.specs.LaidLaws.{length_laid_upto, laid_at, upto_cong}
use Rattle.decode_parts.specs.FilledLaws.{put_one, length_two}
use Rattle.decode_block.specs.Blocks.{fours}

module _ {A : Type 0} where
  pub put_four : (f : ℕ → A) (i : ℕ) (a b c d : A) (l w : List A) → 4 * i + 3 < length w → l ≡ laid (upto f (4 * i)) w
      → a ≡ f (4 * i) → b ≡ f (4 * i + 1) → c ≡ f (4 * i + 2) → d ≡ f (4 * i + 3)
      → set (set (set (set l (4 * i) a) (4 * i + 1) b) (4 * i + 2) c) (4 * i + 3) d ≡ laid (upto f (4 * (i + 1))) w
  put_four f i a b c d l w h e qa qb qc qd =
      let e2 : 4 * i + 1 + 1 ≡ 4 * i + 2 = omega arith in
      let e3 : 4 * i + 2 + 1 ≡ 4 * i + 3 = omega arith in
      let e4 : 4 * (i + 1) ≡ 4 * i + 3 + 1 = omega arith in
      let s1 = put_one f (4 * i) a l w (omega arith) e qa in
      let s2 = put_one f (4 * i + 1) b (set l (4 * i) a) w (omega arith) s1 qb in
      let s3 = put_one f (4 * i + 2) c (set (set l (4 * i) a) (4 * i + 1) b) w (omega arith) (rw e2 at s2) qc in
      rw e4 (put_one f (4 * i + 3) d (set (set (set l (4 * i) a) (4 * i + 1) b) (4 * i + 2) c) w h (rw e3 at s3) qd)

  pub length_four : (l : List A) (i j k m : ℕ) (a b c d : A) → length (set (set (set (set l i a) j b) k c) m d) ≡ length l
  length_four l i j k m a b c d = length_two (set (set l i a) j b) k m c d ∙ length_two l i j a b

  pub laid_long : (f : ℕ → A) (k : ℕ) (l w : List A) → l ≡ laid (upto f k) w → k ≤ length w → length l ≡ length w
  laid_long f k l w e h = ap length e ∙ length_laid_upto f k w h

-- ---- steps one after the other
module _ (ms : ℕ → List Float) (i : ℕ) where
  pub fours_0 : fours ms (4 * i) ≡ get_or (ms i) 0 nan
  fours_0 =
      let e : 4 * i % 4 ≡ 0 = omega arith in
      let q : 4 * i / 4 ≡ i = omega arith in
      rw (e, q)

  pub fours_1 : fours ms (4 * i + 1) ≡ get_or (ms i) 1 nan
  fours_1 =
      let e : (4 * i + 1) % 4 ≡ 1 = omega arith in
      let q : (4 * i + 1) / 4 ≡ i = omega arith in
      rw (e, q)

  pub fours_2 : fours ms (4 * i + 2) ≡ get_or (ms i) 2 nan
  fours_2 =
      let e : (4 * i + 2) % 4 ≡ 2 = omega arith in
      let q : (4 * i + 2) / 4 ≡ i = omega arith in
      rw (e, q)

  pub fours_3 : fours ms (4 * i + 3) ≡ get_or (ms i) 3 nan
  fours_3 =
      let e : (4 * i + 3) % 4 ≡ 3 = omega arith in
      let q : (4 * i + 3) / 4 ≡ i = omega arith in
      rw (e, q)

abbrev four_of : List Float → Step
four_of m = four (get_or m 0 nan ∷ get_or m 1 nan ∷ get_or m 2 nan ∷ get_or m 3 nan ∷ [])

-- a block of such steps
pub fours_steps : (ms : ℕ → List Float) (n : ℕ) (block w : List Float) → block ≡ laid (upto (fours ms) (4 * n)) w → (i : ℕ) → i < n → four_steps block i ≡ four_of (ms i)
fours_steps ms n block w e i h =
    let at : (j : ℕ) → j < 4 * n → get_or block j nan ≡ fours ms j = λ j l. ap (λ (z : List Float). get_or z j nan) e ∙ laid_at nan (fours ms) (4 * n) w j l in
    rw (
      at (4 * i) (omega arith) ∙ fours_0 ms i,
      at (4 * i + 1) (omega arith) ∙ fours_1 ms i,
      at (4 * i + 2) (omega arith) ∙ fours_2 ms i,
      at (4 * i + 3) (omega arith) ∙ fours_3 ms i,
    )

-- ---- marks made in wide words, then narrowed
pub wide_few : (f : ℕ → ℕ) (n : ℕ) (wide w : List ℕ) → ((i : ℕ) → f i < 16) → wide ≡ laid (upto f n) w → (i : ℕ) → i < n → get_or wide i 0 < 16
wide_few f n wide w h e i l = subst (λ (k : ℕ). k < 16) (sym (ap (λ (z : List ℕ). get_or z i 0) e ∙ laid_at 0 f n w i l)) (h i)

pub narrowed : (f : ℕ → ℕ) (n : ℕ) (wide w marks : List ℕ) → wide ≡ laid (upto f n) w → laid (upto (λ i. get_or wide i 0) n) marks ≡ laid (upto f n) marks
narrowed f n wide w marks e =
    ap (λ (z : List ℕ). laid z marks) (upto_cong (λ i. get_or wide i 0) f n (λ i l. ap (λ (z : List ℕ). get_or z i 0) e ∙ laid_at 0 f n w i l))

-- What a point and a coded bit show: one coded bit and the state give the input, and the parts of points give back the bits that they were made of.
--
use Rattle.std.specs.Prelude.{◌≡◌, refl, Bool, true, false, cond, ℕ, zero, suc, ◌+◌, ◌/◌, ◌%◌, ◌<◌, T, eqb, Float}
use Rattle.std.proofs.Common.{arith, eqb→eq, lit<}
use Rattle.std.specs.Float.Ieee.{neg, lt, of_bits}
use Rattle.trellis.specs.Code.{Code, isdb, stage, output, label}
use Rattle.trellis.specs.Step.{term}
use Rattle.trellis.specs.ListLaws.{every, every_at}
use Rattle.isdbs_points.specs.declared.Cplx.{Cplx}
use Rattle.isdbs_points.specs.Points.{point, zero64, one64, root64, psk8_of, qpsk_of, conjugated}
use Rattle.isdbs_points.specs.Frame.{coded_bit}
use Rattle.isdbs_metrics.specs.Reading.{part_of}
use Rattle.trellis.proofs.RunLaws.{output_bit_lem}
use Rattle.wanted_read.specs.ReadOff.{hard, by_sign, psk8_label}
use Rattle.trellis.specs.Isdb

-- ---- a generator that taps the input: of a code of any length, the input is the output exclusive-or the output for the input 0
pub output_input : (c : Code) (g u s : ℕ) → stage c g 0 ≡ 1 → u < 2 → (output c g u s + output c g 0 s) % 2 ≡ u
unfolding output
output_input c g u s e h = rw e (omega arith)

-- X and Y of a label
x_of : (u s : ℕ) → Isdb.labels u s / 2 ≡ output isdb isdb.g1 u s
unfolding label
x_of u s = omega (arith, output_bit_lem isdb isdb.g2 u s)

y_of : (u s : ℕ) → Isdb.labels u s % 2 ≡ output isdb isdb.g2 u s
unfolding label
y_of u s = omega (arith, output_bit_lem isdb isdb.g2 u s)

pub coded_input : (b u s : ℕ) → u < 2 → (coded_bit b (Isdb.labels u s) + coded_bit b (Isdb.labels 0 s)) % 2 ≡ u
coded_input b u s h = go (eqb (b % 2) 0)
  where
    go : (t : Bool) → (cond t (Isdb.labels u s / 2) (Isdb.labels u s % 2) + cond t (Isdb.labels 0 s / 2) (Isdb.labels 0 s % 2)) % 2 ≡ u
    go true = rw (x_of u s, x_of 0 s) (output_input isdb isdb.g1 u s refl h)
    go false = rw (y_of u s, y_of 0 s) (output_input isdb isdb.g2 u s refl h)

-- ---- the parts of points give back the bits
pub hard_one : (b : ℕ) → b < 2 → hard (term b one64) ≡ b
unfolding lt neg of_bits
hard_one zero h = refl
hard_one (suc zero) h = refl
hard_one (suc (suc b)) h = absurd (omega arith)

hard_root : (b : ℕ) → b < 2 → hard (term b root64) ≡ b
unfolding lt neg of_bits
hard_root zero h = refl
hard_root (suc zero) h = refl
hard_root (suc (suc b)) h = absurd (omega arith)

hard_conjugated : (w : Bool) (b : ℕ) → b < 2 → hard (conjugated w (conjugated w (term b root64))) ≡ b
unfolding lt neg of_bits
hard_conjugated false b h = hard_root b h
hard_conjugated true zero h = refl
hard_conjugated true (suc zero) h = refl
hard_conjugated true (suc (suc b)) h = absurd (omega arith)

pub hard_part : (reverse w : Bool) (p1 p0 : ℕ) → p1 < 2 → p0 < 2 → (h : ℕ) → h < 2
    → hard (part_of reverse (point (qpsk_of reverse p1 p0).re (conjugated w (conjugated w (qpsk_of reverse p1 p0).im))) h) ≡ cond (eqb h 0) p1 p0
hard_part true w p1 p0 a b zero h = hard_conjugated w p1 a
hard_part true w p1 p0 a b (suc zero) h = hard_root p0 b
hard_part true w p1 p0 a b (suc (suc n)) h = absurd (omega arith)
hard_part false w p1 p0 a b zero h = hard_root p1 a
hard_part false w p1 p0 a b (suc zero) h = hard_conjugated w p0 b
hard_part false w p1 p0 a b (suc (suc n)) h = absurd (omega arith)

-- ---- an 8PSK point gives back its label
label_test : Bool → ℕ → Bool
label_test w l = eqb (psk8_label (point (psk8_of l).re (conjugated w (conjugated w (psk8_of l).im)))) l

label_passes : (w : Bool) → T (every (label_test w) 8)
unfolding every label_test psk8_label lt neg of_bits
label_passes true = tt
label_passes false = tt

pub label_back : (w : Bool) (l : ℕ) → l < 8 → psk8_label (point (psk8_of l).re (conjugated w (conjugated w (psk8_of l).im))) ≡ l
unfolding label_test
label_back w l h = eqb→eq (psk8_label (point (psk8_of l).re (conjugated w (conjugated w (psk8_of l).im)))) l (every_at (label_test w) 8 (label_passes w) l h)

-- whatever the point is, its label has three bits
sign_small : (a b c : ℕ) (x : Float) → a < 8 → b < 8 → c < 8 → by_sign a b c x < 8
sign_small a b c x p q r = go (lt zero64 x) (lt x zero64)
  where
    go : (s t : Bool) → cond s a (cond t b c) < 8
    go true t = p
    go false true = q
    go false false = r

pub label_small : (z : Cplx) → psk8_label z < 8
unfolding psk8_label
label_small z =
    sign_small (by_sign 1 6 0 z.im) (by_sign 2 5 4 z.im) (by_sign 3 7 7 z.im) z.re
    (sign_small 1 6 0 z.im (lit< tt) (lit< tt) (lit< tt)) (sign_small 2 5 4 z.im (lit< tt) (lit< tt) (lit< tt)) (sign_small 3 7 7 z.im (lit< tt) (lit< tt) (lit< tt))

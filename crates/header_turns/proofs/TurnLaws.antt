-- The header of any capture, turned by quarters of a turn, is the header turned so: whatever the points are.
use Rattle.std.specs.Prelude.{◌≡◌, refl, Bool, true, false, ◌&&◌, ◌⊎◌, List, ℕ, zero, suc, ◌+◌, ◌-◌, ◌*◌, ◌≤◌, T, eqb, ltb, get_or, Float}
use Rattle.std.proofs.Common.{sym, ◌∙◌, mul-add, add-mul, add_comm, arith}
use Rattle.std.proofs.Math.Path.{ap}
use Rattle.std.proofs.Math.Bool.{cond}
use Rattle.std.specs.Float.{nan, binary64}
use Rattle.std.specs.Float.Ieee.{neg, lt, of_bits, of_fields, odd}
use Rattle.std.specs.Float.Ieee.Scale.{finite}
use Rattle.trellis.specs.Step.{term}
use Rattle.header_sync.specs.declared.Fit.{Fit}
use Rattle.header_sync.specs.Signs.{tail1, tail2, place1, place2, zero64, spread, side, mark, marks}
use Rattle.header_sync.specs.Fits.{is_first, joined, fit_of, fit_by, fit_at}
use Rattle.header_sync.proofs.FitLaws.{side_most, mark_most, marks_most, fit_most}
use Rattle.header_sync.specs.Search.{squares}
use Rattle.header_mean.specs.Means.{sum_from, last_tail, forty64, mean_part, power_of, mean_of, mean_at, near_axis, turn_by, turn_of}
use Rattle.header_find.specs.declared.Header.{Header}
use Rattle.header_find.specs.Headers.{header_of, header_at}
use Rattle.header_turns.specs.Turning.{Quarter, quarter_fit, quarter_turn, quarter_header, turned_fit, turned_header, both_axes, Quarters, none, more}
use Rattle.header_turns.specs.SignLaws.{same_test, above_neg, below_neg, not_both, Alike, zeros, alike_by, alike_trans, add_alike, add_turned, div_alike, div_turned}
use Rattle.header_turns.proofs.AxesLaws.{finite_mean}
use Rattle.header_turns.proofs.MeanLaws.{near_left, near_right, near_neg_left, near_neg_right, power_quarter, turn_quarter}

-- ---- one part: its negative scores the other way
sides : (p q : Bool) → (p ≡ true → q ≡ false) → cond {A = ℕ} q 2 (cond p 0 1) ≡ 2 - cond p 2 (cond q 0 1)
sides true true h = let z : ◌≡◌ {A = ℕ} 0 1 = let e = h refl in cc in absurd (omega arith)
sides true false h = refl
sides false true h = refl
sides false false h = refl

pub side_neg : (x : Float) → side (neg x) ≡ 2 - side x
unfolding side
side_neg x = rw (above_neg x, below_neg x) (sides (lt zero64 x) (lt x zero64) (not_both x))

mark_neg : (b : ℕ) (x : Float) → mark b (neg x) ≡ 2 - mark b x
unfolding mark
mark_neg b x = rw (side_neg x) (by (eqb b 0) (side_most x))
  where
    by : (t : Bool) {s : ℕ} → s ≤ 2 → cond {A = ℕ} t (2 - s) (2 - (2 - s)) ≡ 2 - cond t s (2 - s)
    by true h = refl
    by false h = refl

-- ---- 20 symbols
marks_same : (tail : List ℕ) (part other : List Float) (at n : ℕ) → ((i : ℕ) → get_or other i nan ≡ get_or part i nan) → marks tail other at n ≡ marks tail part at n
unfolding marks
marks_same tail part other at zero e = refl
marks_same tail part other at (suc n) e = rw (marks_same tail part other at n e, e (at + n)) refl

marks_neg : (tail : List ℕ) (part other : List Float) (at n : ℕ) → ((i : ℕ) → get_or other i nan ≡ neg (get_or part i nan)) → marks tail other at n ≡ 2 * n - marks tail part at n
unfolding marks
marks_neg tail part other at zero e = refl
marks_neg tail part other at (suc n) e =
    let h = marks_neg tail part other at n e in
    let k = marks_most tail part at n in
    let m = mark_most (get_or tail n 0) (get_or part (at + n) nan) in
    let z = mark_neg (get_or tail n 0) (get_or part (at + n) nan) in
    rw (e (at + n)) (omega arith)

-- ---- the four scores
-- (40 - a) (40 - b) and a b
products : (a b : ℕ) → a ≤ 40 → b ≤ 40 → (40 - a) * (40 - b) + 40 * a + 40 * b ≡ 1600 + a * b
products a b h k =
    let u = 40 - a in
    let v = 40 - b in
    let p : u * (v + b) ≡ u * v + u * b = mul-add u v b in
    let q : (a + u) * b ≡ a * b + u * b = add-mul a u b in
    let s : v + b ≡ 40 = omega arith in
    let t : a + u ≡ 40 = omega arith in
    let x : u * 40 ≡ u * v + u * b = rw s at p in
    let y : 40 * b ≡ a * b + u * b = rw t at q in
    omega arith

first_quarter : (a b x y : ℕ) → a ≤ 40 → b ≤ 40 → x ≤ 40 → y ≤ 40 → is_first (40 - x) (40 - y) a b ≡ is_first a b x y
unfolding is_first
first_quarter a b x y h k l m =
    let p = products x y l m in
    let u = (40 - x) * (40 - y) in
    let f : ◌≡◌ {A = ℕ} ((40 - x) * (40 - y)) u = refl in
    same_test
    (20 * (40 - x + (40 - y) + a + b)) (u + a * b + 800)
    (20 * (a + b + x + y)) (a * b + x * y + 800)
    (λ z. omega arith)
    (λ z. omega arith)

joined_neg : (t : Bool) (x y : ℕ) → x ≤ 40 → y ≤ 40 → joined t (40 - x) (40 - y) ≡ 80 - joined t x y
unfolding joined
joined_neg true x y h k = omega arith
joined_neg false x y h k = omega arith

fit_quarter : (a b x y : ℕ) → a ≤ 40 → b ≤ 40 → x ≤ 40 → y ≤ 40 → fit_of (40 - x) (40 - y) a b ≡ quarter_fit (fit_of a b x y)
unfolding fit_of
fit_quarter a b x y h k l m = rw (first_quarter a b x y h k l m, joined_neg (is_first a b x y) x y l m) refl

spread_neg : (s : ℕ) → s ≤ 80 → spread (80 - s) 40 ≡ spread s 40
spread_neg s h = omega arith

squares_quarter : (f : Fit) → f.im ≤ 80 → squares (80 - f.im) f.re ≡ squares f.re f.im
unfolding squares
squares_quarter f h = rw (spread_neg f.im h) (add_comm (spread f.im 40 * spread f.im 40) (spread f.re 40 * spread f.re 40))

-- ---- the mean: the sums of the turned parts are the turned sums, up to the sign of 0
term_neg : (b : ℕ) (x : Float) → neg (term b x) ≡ term b (neg x)
term_neg b x = by (eqb b 1)
  where
    by : (t : Bool) → neg (cond t (neg x) x) ≡ cond t (neg (neg x)) (neg x)
    by true = refl
    by false = refl

sum_neg : (s r : Float) → Alike (neg s) r → (tail : List ℕ) (part other : List Float) (at n : ℕ) → ((i : ℕ) → get_or other i nan ≡ neg (get_or part i nan))
    → Alike (neg (sum_from s tail part at n)) (sum_from r tail other at n)
unfolding sum_from
sum_neg s r a tail part other at zero e = a
sum_neg s r a tail part other at (suc n) e =
    let x = sum_from s tail part at n in
    let t = term (get_or tail n 0) (get_or part (at + n) nan) in
    let h : term (get_or tail n 0) (get_or other (at + n) nan) ≡ neg t = ap (term (get_or tail n 0)) (e (at + n)) ∙ sym (term_neg (get_or tail n 0) (get_or part (at + n) nan)) in
    rw h (alike_trans (add_turned binary64 x t) (add_alike binary64 (sum_neg s r a tail part other at n e) (neg t)))

sum_same : (s : Float) (tail : List ℕ) (part other : List Float) (at n : ℕ) → ((i : ℕ) → get_or other i nan ≡ get_or part i nan) → sum_from s tail other at n ≡ sum_from s tail part at n
unfolding sum_from
sum_same s tail part other at zero e = refl
sum_same s tail part other at (suc n) e = rw (sum_same s tail part other at n e, e (at + n)) refl

begun : Alike (neg zero64) zero64
unfolding neg of_bits of_fields odd
begun = zeros

mean_neg : (first : Bool) (part other : List Float) (at : ℕ) → ((i : ℕ) → get_or other i nan ≡ neg (get_or part i nan)) → Alike (neg (mean_part first part at)) (mean_part first other at)
unfolding mean_part
mean_neg first part other at e =
    let one = sum_neg zero64 zero64 begun tail1 part other (at + place1) 20 e in
    let two = sum_neg (sum_from zero64 tail1 part (at + place1) 20) (sum_from zero64 tail1 other (at + place1) 20) one (last_tail first) part other (at + place2) 20 e in
    alike_trans (alike_by (div_turned binary64 (sum_from (sum_from zero64 tail1 part (at + place1) 20) (last_tail first) part (at + place2) 20) forty64)) (div_alike binary64 two forty64)

mean_same : (first : Bool) (part other : List Float) (at : ℕ) → ((i : ℕ) → get_or other i nan ≡ get_or part i nan) → mean_part first other at ≡ mean_part first part at
unfolding mean_part
mean_same first part other at e = rw (sum_same zero64 tail1 part other (at + place1) 20 e, sum_same (sum_from zero64 tail1 part (at + place1) 20) (last_tail first) part other (at + place2) 20 e) refl

-- ---- the turn by a mean (z, x), where the mean before was (x, y)
module _ (x y z : Float) (a : Alike (neg y) z) where
  axes_quarter : (lt zero64 (power_of z x) && (near_axis z x && near_axis x z)) ≡ (lt zero64 (power_of x y) && (near_axis x y && near_axis y x))
  axes_quarter =
      rw (power_quarter x y z a, sym (near_left x a) ∙ near_neg_left y x, sym (near_right x a) ∙ near_neg_right x y)
      (ap (λ (b : Bool). lt zero64 (power_of x y) && b) (either (near_axis y x) (near_axis x y)))
    where
      either : (p q : Bool) → p && q ≡ q && p
      either true true = refl
      either true false = refl
      either false true = refl
      either false false = refl

  turned_by : (lt zero64 (power_of x y) && (near_axis x y && near_axis y x)) ≡ false
      → cond (lt zero64 (power_of z x)) (turn_by z x) 8 ≡ quarter_turn (cond (lt zero64 (power_of x y)) (turn_by x y) 8)
  turned_by h = rw (power_quarter x y z a) (by (lt zero64 (power_of x y)) refl h)
    where
      by : (p : Bool) → lt zero64 (power_of x y) ≡ p → (p && (near_axis x y && near_axis y x)) ≡ false → cond p (turn_by z x) 8 ≡ quarter_turn (cond p (turn_by x y) 8)
      by true e k = turn_quarter x y z a e k
      by false e k = refl

none_stays : (p : Bool) (t u : ℕ) → t ≡ quarter_turn u → cond p 8 t ≡ quarter_turn (cond p 8 u)
none_stays true t u e = refl
none_stays false t u e = e

headers : (f g : Fit) (t u : ℕ) → f ≡ g → t ≡ u → ◌≡◌ {A = Header} (record { first = f.first; turn = t; re = f.re; im = f.im }) (record { first = g.first; turn = u; re = g.re; im = g.im })
headers f g t u e h = rw (e, h) refl

-- ---- "turned exactly by a quarter, a half or three quarters it says so"
module _ (re im x y : List Float) (q : Quarter re im x y) (at : ℕ) where
  fit_turned : fit_by tail1 tail2 x y at ≡ quarter_fit (fit_by tail1 tail2 re im at)
  unfolding fit_by
  fit_turned =
      rw (
        marks_neg tail1 im x (at + place1) 20 q.real,
        marks_neg tail2 im x (at + place2) 20 q.real,
        marks_same tail1 re y (at + place1) 20 q.imaginary,
        marks_same tail2 re y (at + place2) 20 q.imaginary,
      )
      (fit_quarter (marks tail1 re (at + place1) 20) (marks tail2 re (at + place2) 20) (marks tail1 im (at + place1) 20) (marks tail2 im (at + place2) 20)
      (marks_most tail1 re (at + place1) 20)
      (marks_most tail2 re (at + place2) 20)
      (marks_most tail1 im (at + place1) 20)
      (marks_most tail2 im (at + place2) 20))

  first_same : (fit_at x y at).first ≡ (fit_at re im at).first
  first_same = ap (λ (f : Fit). f.first) fit_turned

  mean_re : Alike (neg (mean_at re im at).im) (mean_at x y at).re
  unfolding mean_of
  mean_re = rw first_same (mean_neg (fit_at re im at).first im x at q.real)

  mean_im : (mean_at x y at).im ≡ (mean_at re im at).re
  unfolding mean_of
  mean_im = rw first_same (mean_same (fit_at re im at).first re y at q.imaginary)

  -- whether it lies near both axes does not change
  pub axes_turned : both_axes (mean_at x y at) ≡ both_axes (mean_at re im at)
  unfolding mean_of both_axes
  axes_turned =
      let z = (mean_at x y at).re in
      ap (λ (w : Float). lt zero64 (power_of z w) && (near_axis z w && near_axis w z)) mean_im ∙ axes_quarter (mean_at re im at).re (mean_at re im at).im z mean_re

  squares_turned : squares (fit_at x y at).re (fit_at x y at).im ≡ squares (fit_at re im at).re (fit_at re im at).im
  squares_turned = ap (λ (f : Fit). squares f.re f.im) fit_turned ∙ squares_quarter (fit_at re im at) (fit_most re im at).1

  turn_turned : both_axes (mean_at re im at) ≡ false → (header_at x y at).turn ≡ quarter_turn (header_at re im at).turn
  unfolding header_of mean_of both_axes turn_of
  turn_turned h =
      let z = (mean_at x y at).re in
      let n = squares (fit_at re im at).re (fit_at re im at).im in
      ap (λ (k : ℕ). turn_of k (mean_at x y at)) squares_turned
      ∙ none_stays (ltb n 784)
      (cond (lt zero64 (mean_at x y at).power) (turn_by z (mean_at x y at).im) 8)
      (cond (lt zero64 (mean_at re im at).power) (turn_by (mean_at re im at).re (mean_at re im at).im) 8)
      (ap (λ (w : Float). cond (lt zero64 (power_of z w)) (turn_by z w) 8) mean_im ∙ turned_by (mean_at re im at).re (mean_at re im at).im z mean_re h)

  pub header_turned : both_axes (mean_at re im at) ≡ false → header_at x y at ≡ quarter_header (header_at re im at)
  unfolding header_of
  header_turned h = headers (fit_at x y at) (quarter_fit (fit_at re im at)) (header_at x y at).turn (quarter_turn (header_at re im at).turn) fit_turned (turn_turned h)

-- "any capture turned by quarters, noise included, has the same kind, (A, B) turned": of kind and sums with no condition
pub fit_quarters : (re im : List Float) (at : ℕ) → {n : ℕ} {x y : List Float} → Quarters re im n x y → fit_at x y at ≡ turned_fit n (fit_at re im at)
unfolding turned_fit
fit_quarters re im at none = refl
fit_quarters re im at (more {n} {x} {y} {u} {v} r q) = fit_turned x y u v q at ∙ ap quarter_fit (fit_quarters re im at r)

-- "and a turn of two eighths more for each": of all that a header says
pub header_quarters : (re im : List Float) (at : ℕ) → both_axes (mean_at re im at) ≡ false
    → {n : ℕ} {x y : List Float} → Quarters re im n x y → (header_at x y at ≡ turned_header n (header_at re im at)) × (both_axes (mean_at x y at) ≡ false)
unfolding turned_header
header_quarters re im at h none = (refl, h)
header_quarters re im at h (more {n} {x} {y} {u} {v} r q) =
    let b = header_quarters re im at h r in
    (header_turned x y u v q at b.1 ∙ ap quarter_header b.0, axes_turned x y u v q at ∙ b.1)

-- so of every capture whose header has a mean with a finite part
pub finite_quarters : (re im : List Float) (at : ℕ) → (T (finite (mean_at re im at).re) ⊎ T (finite (mean_at re im at).im))
    → {n : ℕ} {x y : List Float} → Quarters re im n x y → header_at x y at ≡ turned_header n (header_at re im at)
finite_quarters re im at h q = (header_quarters re im at (finite_mean re im at h) q).0

-- What follows from the test of row 6, and how large scores and sums are.
use Rattle.std.specs.Prelude.{◌≡◌, Bool, true, false, cond, List, ℕ, zero, suc, ◌+◌, ◌-◌, ◌*◌, ◌≤◌, eqb, ltb, get_or, Float}
use Rattle.std.proofs.Common.{arith, ltb-false}
use Rattle.std.specs.Float.{nan}
use Rattle.std.specs.Float.Ieee.{lt}
use Rattle.isdbs_frame.specs.Frame.{frame_symbols}
use Rattle.refusal.proofs.RowLaws.{neither}
use Rattle.header_sync.specs.Signs.{tail1, tail2, place1, place2, zero64, side, mark, marks}
use Rattle.header_sync.specs.Fits.{is_first, joined, fit_of, fit_by, fit_at, no_frame}

pub frame_there : (n m at : ℕ) → no_frame n m at ≡ false → (at + frame_symbols ≤ n) × (at + frame_symbols ≤ m)
unfolding no_frame
frame_there n m at e =
    let p = neither (ltb n (at + frame_symbols)) (ltb m (at + frame_symbols)) e in
    (ltb-false n (at + frame_symbols) p.0, ltb-false m (at + frame_symbols) p.1)

-- ---- the scores and the sums, each with what keeps it from going below 0
pub side_most : (x : Float) → side x ≤ 2
unfolding side
side_most x = by (lt zero64 x) (lt x zero64)
  where
    by : (p q : Bool) → cond {A = ℕ} p 2 (cond q 0 1) ≤ 2
    by true q = omega arith
    by false true = omega arith
    by false false = omega arith

pub mark_most : (b : ℕ) (x : Float) → mark b x ≤ 2
unfolding mark
mark_most b x = by (eqb b 0) (side_most x)
  where
    by : (t : Bool) {s : ℕ} → s ≤ 2 → cond {A = ℕ} t s (2 - s) ≤ 2
    by true h = h
    by false h = omega arith

pub marks_most : (tail : List ℕ) (part : List Float) (at n : ℕ) → marks tail part at n ≤ 2 * n
unfolding marks
marks_most tail part at zero = omega arith
marks_most tail part at (suc n) =
    let h = marks_most tail part at n in
    let k = mark_most (get_or tail n 0) (get_or part (at + n) nan) in
    omega arith

joined_most : (t : Bool) (x y : ℕ) → x ≤ 40 → y ≤ 40 → joined t x y ≤ 80
unfolding joined
joined_most true x y h k = omega arith
joined_most false x y h k = omega arith

pub fit_most : (re im : List Float) (at : ℕ) → ((fit_at re im at).re ≤ 80) × ((fit_at re im at).im ≤ 80)
unfolding fit_by fit_of
fit_most re im at =
    let a = marks tail1 re (at + place1) 20 in
    let b = marks tail2 re (at + place2) 20 in
    let x = marks tail1 im (at + place1) 20 in
    let y = marks tail2 im (at + place2) 20 in (
      joined_most (is_first a b x y) a b (marks_most tail1 re (at + place1) 20) (marks_most tail2 re (at + place2) 20),
      joined_most (is_first a b x y) x y (marks_most tail1 im (at + place1) 20) (marks_most tail2 im (at + place2) 20),
    )

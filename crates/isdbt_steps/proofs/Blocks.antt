-- The soft values of a block are its steps.
use mathlib.Core.Path.{◌≡◌, refl, sym, ◌∙◌, ap}
use mathlib.Core.List.{List}
use Prim.Native.Nat.{ℕ, ◌+◌, ◌*◌, ◌/◌, ◌%◌, ◌<◌, ◌≤◌}
use native.Mathlib.Omega.{arith}
use lib.ListN.{length, get_or, set, drop, get_or-append}
use lib.Ieee.{Float, nan}
use Rattle.trellis.specs.Lists.{upto}
use Rattle.trellis.specs.ListLaws.{length_upto, get_d_upto}
use Rattle.trellis.specs.Step.{pair}
use Rattle.trellis.specs.Run.{pair_steps}
use Rattle.isdbt_table.specs.WrittenLaws.{Written, written_next}
use Rattle.isdbt_steps.specs.Soft.{placed_by, placed_steps, sent_value, standing_at}
use Rattle.isdbt_steps.specs.declared.Standing.{Standing}
use Rattle.isdbt_steps.proofs.Places.{second}

pair_same : {x y x' y' : Float} → x ≡ x' → y ≡ y' → pair x y ≡ pair x' y'
pair_same p q = cc

-- the soft values of a block are its steps
pub block_steps_lem : (period n : ℕ) (places : List ℕ) (llrs : List Float) (i len : ℕ) (pairs₀ pairs : List Float) → Written (λ j. placed_by period n places llrs (2 * i + j)) (2 * len) pairs₀ pairs
    → (k : ℕ) → k < len → placed_steps period n places llrs (i + k) ≡ pair_steps pairs k
block_steps_lem period n places llrs i len pairs₀ pairs w k h =
    let f : ℕ → Float = λ j. placed_by period n places llrs (2 * i + j) in
    let there : (j : ℕ) → j < 2 * len → f j ≡ get_or pairs j nan = λ j g.
    sym (ap (λ (l : List Float). get_or l j nan) w.front ∙ get_or-append (upto f (2 * len)) (drop (length (upto f (2 * len))) pairs₀) nan j (rw (length_upto f (2 * len)) g) ∙ get_d_upto f nan (2 * len) j g) in
    let x : 2 * (i + k) ≡ 2 * i + 2 * k = omega arith in
    let y : 2 * (i + k) + 1 ≡ 2 * i + (2 * k + 1) = omega arith in
    pair_same (ap (λ (j : ℕ). placed_by period n places llrs j) x ∙ there (2 * k) (omega arith)) (ap (λ (j : ℕ). placed_by period n places llrs j) y ∙ there (2 * k + 1) (omega arith))

-- a step more: its two soft values are written
pub step_written : (period n : ℕ) (places : List ℕ) (llrs : List Float) (i k : ℕ) (pairs₀ pairs : List Float) (at : Standing) (x y : Float) → at ≡ standing_at period n (i + k) → 1 ≤ period → period ≤ 7
    → x ≡ sent_value n llrs at.base (get_or places at.place 0) → y ≡ sent_value n llrs at.base (get_or places (at.place + 1) 0)
    → Written (λ j. placed_by period n places llrs (2 * i + j)) (2 * k) pairs₀ pairs → 2 * k + 1 < length pairs₀
    → Written (λ j. placed_by period n places llrs (2 * i + j)) (2 * (k + 1)) pairs₀ (set (set pairs (2 * k) x) (2 * k + 1) y)
step_written period n places llrs i k pairs₀ pairs at x y stood a b is_x is_y w h =
    let f : ℕ → Float = λ j. placed_by period n places llrs (2 * i + j) in
    let m = i + k in
    let s = second period m a b in
    let e : 2 * m ≡ 2 * i + 2 * k = omega arith in
    let g : 2 * m + 1 ≡ 2 * i + (2 * k + 1) = omega arith in
    let first : x ≡ f (2 * k) = is_x ∙ ap (λ (t : Standing). sent_value n llrs t.base (get_or places t.place 0)) stood ∙ ap (λ (j : ℕ). placed_by period n places llrs j) e in
    let other : placed_by period n places llrs (2 * m + 1) ≡ sent_value n llrs (n * (2 * m / (2 * period))) (get_or places (2 * m % (2 * period) + 1) 0) = rw (s.same, s.next) refl in
    let last : y ≡ f (2 * k + 1) = is_y ∙ ap (λ (t : Standing). sent_value n llrs t.base (get_or places (t.place + 1) 0)) stood ∙ sym other ∙ ap (λ (j : ℕ). placed_by period n places llrs j) g in
    let one = written_next f (2 * k) pairs₀ pairs x w (omega arith) first in
    let two = written_next f (2 * k + 1) pairs₀ (set pairs (2 * k) x) y one h last in
    let z : 2 * k + 1 + 1 ≡ 2 * (k + 1) = omega arith in
    rw z at two

-- After six steps the encoder's state is the last six bits, whatever it was before: so every later label is that of a window of seven bits.
use mathlib.Core.Path.{◌≡◌, refl, sym, ◌∙◌, ap}
use mathlib.Core.Bool.{Bool}
use mathlib.Core.List.{List}
use Prim.Native.Nat.{ℕ, zero, suc, ◌+◌, ◌-◌, ◌*◌, ◌/◌, ◌%◌, ◌^◌, ◌<◌, ◌≤◌}
use native.Mathlib.Nat.{add_assoc, add_comm, mod-lt}
use native.Mathlib.Numerals.{add-one}
use native.Mathlib.Omega.{arith}
use lib.Dec.{T, eqb, eqb→eq, lit<}
use lib.Pow.{shr-shr}
use lib.ListN.{get_or, drop}
use lib.Seq.{get_or-drop}
use Rattle.trellis.specs.Code.{tapped, output, label, state_at}
use Rattle.trellis.specs.Isdb
use Rattle.trellis.specs.ListLaws.{every, every_at}
use Rattle.isdbs_points.specs.Frame.{label_at}
use Rattle.isdbs_points.specs.StateLaws.{state_shift}
use Rattle.isdbs_metrics.specs.Steps.{Bits}
use Rattle.decode_bytes.specs.SixLaws.{six_bits}
use Rattle.strain_marks.specs.Counts.{summed}
use Rattle.strain_marks.specs.CountsLaws.{summed_same, summed_append, summed_few}
use Rattle.strain_marks.specs.Marks.{marked}
use Rattle.decode_bytes.specs.PackingLaws.{state_more}
use Rattle.decode_strain.specs.declared.Slot.{Slot}
use Rattle.decode_strain.specs.Counted.{Counted}
use Rattle.decode_strain.specs.CountingLaws.{slot}
use Rattle.decode_strain.specs.Windows.{window_label, window_mark}

-- ---- the 128 registers, by a computed test
register_x : ℕ → ℕ
register_x k = (k / 64 + k / 32 + k / 16 + k / 8 + k) % 2

register_y : ℕ → ℕ
register_y k = (k / 64 + k / 16 + k / 8 + k / 2 + k) % 2

test : ℕ → Bool
test k = eqb (Isdb.labels (k / 64) (k % 64)) (2 * register_x k + register_y k)

passes : T (every test 128)
unfolding every test register_x register_y label output tapped
passes = tt

register_label_lem : (k : ℕ) → k < 128 → Isdb.labels (k / 64) (k % 64) ≡ 2 * register_x k + register_y k
unfolding test
register_label_lem k h = eqb→eq (Isdb.labels (k / 64) (k % 64)) (2 * register_x k + register_y k) (every_at test 128 passes k h)

same_parity : (x y q : ℕ) → x ≡ 2 * q + y → x % 2 ≡ y % 2
same_parity x y q e = omega arith

x_sum : (a b c d e f g : ℕ) → g + (2 * g + f) + (4 * g + 2 * f + e) + (8 * g + 4 * f + 2 * e + d) + (64 * g + (32 * f + 16 * e + 8 * d + 4 * c + 2 * b + a))
    ≡ 2 * (39 * g + 19 * f + 9 * e + 4 * d + 2 * c + b) + (g + f + e + d + a)
x_sum a b c d e f g = omega arith

y_sum : (a b c d e f g : ℕ) → g + (4 * g + 2 * f + e) + (8 * g + 4 * f + 2 * e + d) + (32 * g + 16 * f + 8 * e + 4 * d + 2 * c + b) + (64 * g + (32 * f + 16 * e + 8 * d + 4 * c + 2 * b + a))
    ≡ 2 * (54 * g + 27 * f + 13 * e + 6 * d + 3 * c + b) + (g + e + d + b + a)
y_sum a b c d e f g = omega arith

module _ (a b c d e f g : ℕ) (la : a < 2) (lb : b < 2) (lc : c < 2) (ld : d < 2) (le : e < 2) (lf : f < 2) (lg : g < 2) where
  abbrev s : ℕ
  s = 32 * f + 16 * e + 8 * d + 4 * c + 2 * b + a

  abbrev k : ℕ
  k = 64 * g + s

  x_is : register_x k ≡ (g + f + e + d + a) % 2
  unfolding register_x
  x_is =
      let k1 : k / 64 ≡ g = omega arith in
      let k2 : k / 32 ≡ 2 * g + f = omega arith in
      let k3 : k / 16 ≡ 4 * g + 2 * f + e = omega arith in
      let k4 : k / 8 ≡ 8 * g + 4 * f + 2 * e + d = omega arith in
      rw (k1, k2, k3, k4) (same_parity _ _ (39 * g + 19 * f + 9 * e + 4 * d + 2 * c + b) (x_sum a b c d e f g))

  y_is : register_y k ≡ (g + e + d + b + a) % 2
  unfolding register_y
  y_is =
      let k1 : k / 64 ≡ g = omega arith in
      let k2 : k / 16 ≡ 4 * g + 2 * f + e = omega arith in
      let k3 : k / 8 ≡ 8 * g + 4 * f + 2 * e + d = omega arith in
      let k4 : k / 2 ≡ 32 * g + 16 * f + 8 * e + 4 * d + 2 * c + b = omega arith in
      rw (k1, k2, k3, k4) (same_parity _ _ (54 * g + 27 * f + 13 * e + 6 * d + 3 * c + b) (y_sum a b c d e f g))

  pub digits_label : Isdb.labels g s ≡ 2 * ((g + f + e + d + a) % 2) + (g + e + d + b + a) % 2
  digits_label =
      let u : k / 64 ≡ g = omega arith in
      let v : k % 64 ≡ s = omega arith in
      let q = register_label_lem k (omega arith) in
      rw (x_is, y_is) at (rw (u, v) at q)

-- ---- the state after six bits
pub state_small : (s : ℕ) (us : List ℕ) (n : ℕ) → s < 64 → Bits us n → state_at 32 s us n < 64
unfolding state_at
state_small s us zero h b = h
state_small s us (suc n) h b =
    let p = state_small s us n h (λ i l. b i (omega arith)) in
    let q = b n (omega arith) in
    omega arith

module _ (s : ℕ) (us : List ℕ) (h : s < 64) where
  pub state_six : (i : ℕ) → Bits us (i + 6)
      → state_at 32 s us (i + 6) ≡ 32 * get_or us (i + 5) 0 + 16 * get_or us (i + 4) 0 + 8 * get_or us (i + 3) 0 + 4 * get_or us (i + 2) 0 + 2 * get_or us (i + 1) 0 + get_or us (i + 0) 0
  state_six i b =
      let before = state_at 32 s us i in
      let at : (j : ℕ) → get_or (drop i us) j 0 ≡ get_or us (i + j) 0 = λ j. get_or-drop i us j 0 in
      let small = state_small s us i h (λ j l. b j (omega arith)) in
      let six = six_bits before (drop i us) small (λ j l. rw (at j) (b (i + j) (omega arith))) in
      state_shift 32 s us i (drop i us) 6 (λ j l. sym (at j)) ∙ rw (at 0, at 1, at 2, at 3, at 4, at 5) at six

  -- the label of a step by its window
  pub window_label_is : (i : ℕ) → Bits us (i + 7) → label_at s us (i + 6) ≡ window_label us i
  window_label_is i b =
      let u : ℕ → ℕ = λ j. get_or us (i + j) 0 in
      let few : (j : ℕ) → j < 7 → u j < 2 = λ j l. b (i + j) (omega arith) in
      let z : i + 0 ≡ i = omega arith in
      let q = state_six i (λ j l. b j (omega arith)) in
      ap (λ (x : ℕ). Isdb.labels (u 6) x) q
      ∙ digits_label (u 0) (u 1) (u 2) (u 3) (u 4) (u 5) (u 6) (few 0 (omega arith)) (few 1 (omega arith)) (few 2 (omega arith)) (few 3 (omega arith)) (few 4 (omega arith)) (few 5 (omega arith)) (few 6 (omega arith))
      ∙ ap (λ (x : ℕ). 2 * ((u 6 + u 5 + u 4 + u 3 + get_or us x 0) % 2) + (u 6 + u 4 + u 3 + u 1 + get_or us x 0) % 2) z

  pub window_marked : (ms : List ℕ) (i : ℕ) → Bits us (i + 7) → window_mark ms us i ≡ marked ms s us (i + 6)
  unfolding window_mark
  window_marked ms i b = ap (λ (x : ℕ). get_or ms (i + 6) 0 / 2 ^ x % 2) (sym (window_label_is i b))

  -- six steps, and the others by their windows
  pub marked_sum : (ms : List ℕ) (n : ℕ) → Bits us (n + 6) → summed (marked ms s us) (6 + n) ≡ summed (marked ms s us) 6 + summed (window_mark ms us) n
  marked_sum ms n b =
      summed_append (marked ms s us) 6 n
      ∙ ap (λ (x : ℕ). summed (marked ms s us) 6 + x) (summed_same (λ i. marked ms s us (6 + i)) (window_mark ms us) n (λ i l. ap (marked ms s us) (add_comm 6 i) ∙ sym (window_marked ms i (λ j g. b j (omega arith)))))

-- ---- a bit of a mark
pub low_even : (m y : ℕ) → y ≡ 0 → m % 2 ≡ m / 2 ^ y % 2
low_even m y e = rw e (omega arith)

pub low_odd : (m y : ℕ) → y ≡ 1 → m / 2 % 2 ≡ m / 2 ^ y % 2
low_odd m y e = rw e (omega arith)

pub pair_even : (m x y r : ℕ) → x ≡ 0 → r ≡ m / 2 ^ y % 2 → r ≡ m / 2 ^ (2 * x + y) % 2
pair_even m x y r e q = let z : y ≡ 2 * x + y = omega arith in q ∙ ap (λ (n : ℕ). m / 2 ^ n % 2) z

pub pair_odd : (m x y r : ℕ) → x ≡ 1 → r ≡ m / 4 / 2 ^ y % 2 → r ≡ m / 2 ^ (2 * x + y) % 2
pair_odd m x y r e q = let z : 2 + y ≡ 2 * x + y = omega arith in q ∙ ap (λ (n : ℕ). n % 2) (shr-shr m 2 y) ∙ ap (λ (n : ℕ). m / 2 ^ n % 2) z

-- ---- windows counted one by one
pub windows_few : (ms us : List ℕ) (n : ℕ) → summed (window_mark ms us) n ≤ n
unfolding window_mark
windows_few ms us n = summed_few (window_mark ms us) n (λ i. let b : window_mark ms us i < 2 = mod-lt _ (lit< tt) in omega arith)

pub windows_none : (ms us : List ℕ) → 0 ≡ summed (window_mark ms us) 0
unfolding summed
windows_none ms us = refl

pub windows_next : (ms us : List ℕ) (i count r : ℕ) → count ≡ summed (window_mark ms us) i → r ≡ get_or ms (i + 6) 0 / 2 ^ window_label us i % 2 → count + r ≡ summed (window_mark ms us) (i + 1)
unfolding summed window_mark
windows_next ms us i count r e q = rw (add-one i, e, q)

-- ---- windows from a step on
pub window_from : (ms us : List ℕ) (k i : ℕ) → window_mark (drop k ms) (drop k us) i ≡ window_mark ms us (k + i)
unfolding window_mark
window_from ms us k i =
    let m : (j : ℕ) → get_or (drop k ms) (i + j) 0 ≡ get_or ms (k + i + j) 0 = λ j. get_or-drop k ms (i + j) 0 ∙ ap (λ (x : ℕ). get_or ms x 0) (sym (add_assoc k i j)) in
    let u : (j : ℕ) → get_or (drop k us) (i + j) 0 ≡ get_or us (k + i + j) 0 = λ j. get_or-drop k us (i + j) 0 ∙ ap (λ (x : ℕ). get_or us x 0) (sym (add_assoc k i j)) in
    rw (m 6, u 6, u 5, u 4, u 3, u 1, get_or-drop k us i 0)

pub windows_more : (ms us : List ℕ) (k n count r : ℕ) → count ≡ summed (window_mark ms us) k → r ≡ summed (window_mark (drop k ms) (drop k us)) n → count + r ≡ summed (window_mark ms us) (k + n)
windows_more ms us k n count r e q =
    rw (e, q)
    (ap (λ (x : ℕ). summed (window_mark ms us) k + x) (summed_same (window_mark (drop k ms) (drop k us)) (λ i. window_mark ms us (k + i)) n (λ i l. window_from ms us k i))
    ∙ sym (summed_append (window_mark ms us) k n))

-- ---- a slot: six steps, and the others by their windows
pub slot_counted : (ms us : List ℕ) (s n : ℕ) (first : Slot) (rest state : ℕ) → s < 64 → 6 ≤ n → Bits us n → Counted ms us s 6 first → rest ≡ summed (window_mark ms us) (n - 6)
    → (state < 64) × ((x : ℕ) → x < 64 → state ≡ state_at 32 x (drop (n - 6) us) 6) → Counted ms us s n (slot (first.count + rest) state)
slot_counted ms us s n first rest state l g b h q z =
    let from = n - 6 in
    let e : 6 + from ≡ n = omega arith in
    let before = state_at 32 s us from in
    let small = state_small s us from l (λ j k. b j (omega arith)) in
    let sum = marked_sum s us l ms from (λ j k. b j (omega arith)) in
    record {
      small = z.0;
      count_is = rw (h.count_is, q) (sym sum ∙ ap (summed (marked ms s us)) e);
      state_is = state_more s us from 6 n before state (omega arith) refl (z.1 before small);
    }
